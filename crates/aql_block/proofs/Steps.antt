-- Steps of the loops that go over the columns of a block.
use Rattle.std.proofs.Common.{◌≡◌, ◌≢◌, ◌∙◌, ℕ, zero, suc, ◌+◌, ◌<◌, ◌≤◌, List, [], ◌∷◌, ◌++◌, length, take, drop, set, get_or, map, Bool, true, false, cond, refl, ap, ap₂, sym, subst, arith, inl, inr, length-append, length-take, length-drop}
use Rattle.std.proofs.lemmas.Bool.{cases_lt, eq-eqb, ne_eqb}
use Rattle.std.proofs.lemmas.List.{length-map, map-append, append-nil, drop_more, take_more, take_more_set, take-set-le, take_all, take-append-le, drop_all, drop-drop, drop-set-lt, set-set, get_or-drop, get_or_at}
use Rattle.std.proofs.lemmas.List.Edits.{map_over_more, swap_is, length-swap}
use Rattle.std.specs.Prelude.{Some, slice_get, unwrap_or, swap}
use Rattle.std.specs.List.{AllByRecursion}
use Rattle.aql_value.specs.Datum.{Datum, null}
use Rattle.aql_tree.specs.declared.syntax.Ident.TheVariants.{Num}
use Rattle.aql_meaning.specs.Row.{Row, bind, value_at}
use Rattle.aql_block.specs.Rows.{Entries, HasAll}
use Rattle.aql_block.specs.Tables.{cells, marked}
use Rattle.aql_block.specs.Columns.{ColumnView, HasRoom, pushed, moved_values, copied_values, values_at, first_of}
use Rattle.aql_block.specs.laws.Registers.{has_all_bind}

-- ---- each column

pub each_at : (P : ColumnView → Type 0) (cs : List ColumnView) (i : ℕ) (c : ColumnView) → AllByRecursion P cs
    → i < length cs → c ≡ get_or cs i c → P c
each_at P [] i c h l is = absurd (omega arith)
each_at P (d ∷ cs) zero c h l is = subst P (sym is) h.0
each_at P (d ∷ cs) (suc i) c h l is = each_at P cs i c h.1 (omega arith) is

-- the columns of which the first ones were worked on
abbrev pub Worked : (ColumnView → ColumnView) → ℕ → List ColumnView → List ColumnView → Type 0
Worked f i now old = now ≡ map f (take i old) ++ drop i old

pub length-worked : (f : ColumnView → ColumnView) (i : ℕ) (now old : List ColumnView) → Worked f i now old
    → length now ≡ length old
length-worked f i now old w =
    ap length w
    ∙ (omega (
      arith,
      length-append (map f (take i old)) (drop i old),
      length-map (take i old) f,
      length-take i old,
      length-drop i old,
    ))

-- the column that comes next is as it was
pub worked_next : (f : ColumnView → ColumnView) (i : ℕ) (now old : List ColumnView) (c : ColumnView)
    → Worked f i now old
    → i < length old → c ≡ get_or now i c → c ≡ get_or old i c
worked_next f i now old c w l is =
    let e : length (map f (take i old)) ≡ i = length-map (take i old) f ∙ (omega (arith, length-take i old)) in
    is ∙ ap (λ cs. get_or cs i c) w
    ∙ ap (λ cs. get_or (map f (take i old) ++ cs) i c) (drop_more old i c l)
    ∙ get_or_at (map f (take i old)) (get_or old i c) (drop (i + 1) old) c i e

pub worked_more : (f : ColumnView → ColumnView) (i : ℕ) (now old : List ColumnView) (c : ColumnView)
    → Worked f i now old
    → i < length old → c ≡ get_or now i c → Worked f (i + 1) (set now i (f c)) old
worked_more f i now old c w l is = map_over_more f old now i c l w is

pub worked_all : (f : ColumnView → ColumnView) (i : ℕ) (now old : List ColumnView) → Worked f i now old
    → length old ≤ i → now ≡ map f old
worked_all f i now old w l =
    w ∙ ap₂ (λ cs ds. map f cs ++ ds) (take_all i old l) (drop_all i old l) ∙ append-nil (map f old)

-- what was handed on of the first columns
pub handed_more : (f : ColumnView → ColumnView) (i : ℕ) (old out : List ColumnView) (c : ColumnView)
    → out ≡ map f (take i old) → i < length old → c ≡ get_or old i c
    → out ++ f c ∷ [] ≡ map f (take (i + 1) old)
handed_more f i old out c e l is =
    ap₂ (λ cs d. cs ++ f d ∷ []) e is
    ∙ sym (map-append f (take i old) (get_or old i c ∷ []))
    ∙ ap (λ cs. map f cs) (sym (take_more old i c l))

pub handed_all : (f : ColumnView → ColumnView) (i : ℕ) (old out : List ColumnView) → out ≡ map f (take i old)
    → length old ≤ i → out ≡ map f old
handed_all f i old out e l = e ∙ ap (λ cs. map f cs) (take_all i old l)

-- ---- the cells of one row

pub length-cells : (xs : List ℕ) (vs : List Datum) → length (cells xs vs) ≡ length xs
length-cells [] vs = refl
length-cells (x ∷ xs) [] = ap suc (length-cells xs [])
length-cells (x ∷ xs) (v ∷ vs) = ap suc (length-cells xs vs)

cell_more : (xs : List ℕ) (cs : List ColumnView) (at i x : ℕ) (c : ColumnView) (v : Datum)
    → i < length xs → length cs ≡ length xs → x ≡ get_or xs i x → c ≡ get_or cs i c
    → slice_get c.held at ≡ Some v
    → take (suc i) (cells xs (values_at cs at)) ≡ take i (cells xs (values_at cs at)) ++ (x, v) ∷ []
cell_more [] cs at i x c v l e isx isc h = absurd (omega arith)
cell_more (y ∷ xs) [] at i x c v l e isx isc h = absurd (cc)
cell_more (y ∷ xs) (d ∷ cs) at zero x c v l e isx isc h =
    let value : unwrap_or (slice_get d.held at) null ≡ v =
    ap (λ (p : ColumnView). unwrap_or (slice_get p.held at) null) (sym isc) ∙ ap (λ o. unwrap_or o null) h in
    ap₂ (λ z w. (z, w) ∷ []) (sym isx) value
cell_more (y ∷ xs) (d ∷ cs) at (suc i) x c v l e isx isc h =
    ap (λ es. (y, unwrap_or (slice_get d.held at) null) ∷ es)
    (cell_more xs cs at i x c v (omega arith) (cc) isx isc h)

pub cell_there : (xs : List ℕ) (cs : List ColumnView) (at i x : ℕ) (c : ColumnView) (v : Datum) (es : Entries)
    → es ≡ take i (cells xs (values_at cs at)) → i < length xs → length cs ≡ length xs
    → x ≡ get_or xs i x → c ≡ get_or cs i c → slice_get c.held at ≡ Some v
    → es ++ (x, v) ∷ [] ≡ take (i + 1) (cells xs (values_at cs at))
cell_there xs cs at i x c v es is l e isx isc h =
    let next : suc i ≡ i + 1 = omega arith in
    ap (λ fs. fs ++ (x, v) ∷ []) is ∙ sym (cell_more xs cs at i x c v l e isx isc h)
    ∙ ap (λ k. take k (cells xs (values_at cs at))) next

pub all_cells : (xs : List ℕ) (vs : List Datum) (i : ℕ) (es : Entries) → es ≡ take i (cells xs vs)
    → length xs ≤ i → es ≡ cells xs vs
all_cells xs vs i es is l = is ∙ take_all i (cells xs vs) (omega (arith, length-cells xs vs))

-- ---- values that are pushed

abbrev pub with_value : ColumnView → Datum → ColumnView
with_value c v = record { room = c.room; held = c.held ++ v ∷ [] }

-- the first columns have their values, and these are left for the others
pub record Pushing (i : ℕ) (now old : List ColumnView) (left all : List Datum) : Type 0 where
  pub done : now ≡ pushed old (take i all)
  pub rest : drop i all ≡ left

pushed_none : (cs : List ColumnView) → pushed cs [] ≡ cs
pushed_none [] = refl
pushed_none (c ∷ cs) = refl

pub pushing_none : (old : List ColumnView) (all : List Datum) → Pushing 0 old old all all
pushing_none old all = record { done = sym (pushed_none old); rest = refl }

pushed_next : (old : List ColumnView) (vs : List Datum) (i : ℕ) (c : ColumnView)
    → get_or (pushed old (take i vs)) i c ≡ get_or old i c
pushed_next [] vs i c = refl
pushed_next (d ∷ old) vs zero c = refl
pushed_next (d ∷ old) [] (suc i) c = refl
pushed_next (d ∷ old) (v ∷ vs) (suc i) c = pushed_next old vs i c

pushing_next : (i : ℕ) (now old : List ColumnView) (left all : List Datum) (c : ColumnView)
    → Pushing i now old left all → c ≡ get_or now i c → c ≡ get_or old i c
pushing_next i now old left all c p is =
    is ∙ ap (λ cs. get_or cs i c) p.done ∙ pushed_next old all i c

pub pushing_room : (i : ℕ) (now old : List ColumnView) (left all : List Datum) (c : ColumnView)
    → Pushing i now old left all → AllByRecursion HasRoom old → i < length old → c ≡ get_or now i c
    → HasRoom (get_or now i c)
pushing_room i now old left all c p h l is =
    subst HasRoom is (each_at HasRoom old i c h l (pushing_next i now old left all c p is))

pushed_more : (old : List ColumnView) (vs : List Datum) (i : ℕ) (c : ColumnView) (v : Datum)
    (rest : List Datum) → i < length old → c ≡ get_or old i c → drop i vs ≡ v ∷ rest
    → set (pushed old (take i vs)) i (with_value c v) ≡ pushed old (take (suc i) vs)
pushed_more [] vs i c v rest l is e = absurd (omega arith)
pushed_more (d ∷ old) [] zero c v rest l is e = absurd (cc)
pushed_more (d ∷ old) (w ∷ vs) zero c v rest l is e =
    let same : v ≡ w = cc in
    ap₂ (λ (p : ColumnView) u. with_value p u ∷ old) is same
    ∙ ap (λ cs. with_value d w ∷ cs) (sym (pushed_none old))
pushed_more (d ∷ old) [] (suc i) c v rest l is e = absurd (cc)
pushed_more (d ∷ old) (w ∷ vs) (suc i) c v rest l is e =
    ap (λ cs. with_value d w ∷ cs) (pushed_more old vs i c v rest (omega arith) is e)

pub pushing_more : (i : ℕ) (now old : List ColumnView) (left all : List Datum) (c : ColumnView) (v : Datum)
    (rest : List Datum) → Pushing i now old left all → i < length old → c ≡ get_or now i c
    → left ≡ v ∷ rest → Pushing (i + 1) (set now i (with_value c v)) old rest all
pushing_more i now old left all c v rest p l is e = record {
  done =
      ap (λ cs. set cs i (with_value c v)) p.done
      ∙ pushed_more old all i c v rest l (pushing_next i now old left all c p is) (p.rest ∙ e)
      ∙ (let next : suc i ≡ i + 1 = omega arith in ap (λ k. pushed old (take k all)) next);
  rest = sym (drop-drop 1 i all) ∙ ap (λ vs. drop 1 vs) (p.rest ∙ e);
}

pub pushing_all : (i : ℕ) (now old : List ColumnView) (left all : List Datum) → Pushing i now old left all
    → length all ≤ i → now ≡ pushed old all
pushing_all i now old left all p l = p.done ∙ ap (λ vs. pushed old vs) (take_all i all l)

-- each column cut back to what it had
pub pushing_back : (i : ℕ) (now old : List ColumnView) (left all : List Datum) (n : ℕ)
    → Pushing i now old left all → AllByRecursion (λ c. length c.held ≡ n) old
    → map (first_of n) now ≡ old
pushing_back i now old left all n p h = ap (λ cs. map (first_of n) cs) p.done ∙ back old (take i all) h
  where
    whole : (c : ColumnView) → length c.held ≡ n → first_of n c ≡ c
    whole c e = ap (λ vs. record { room = c.room; held = vs }) (take_all n c.held (omega arith))

    back : (cs : List ColumnView) (vs : List Datum) → AllByRecursion (λ c. length c.held ≡ n) cs
        → map (first_of n) (pushed cs vs) ≡ cs
    back [] vs g = refl
    back (c ∷ cs) [] g =
        ap₂ (λ d ds. d ∷ map (first_of n) ds) (whole c g.0) (sym (pushed_none cs))
        ∙ ap (λ ds. c ∷ ds) (back cs [] g.1)
    back (c ∷ cs) (v ∷ vs) g =
        let e = g.0 in
        ap₂ (λ d ds. d ∷ ds)
        (ap (λ ws. record { room = c.room; held = ws }) (take-append-le n c.held (v ∷ []) (omega arith))
        ∙ whole c g.0)
        (back cs vs g.1)

-- the values that are left after the next one
names_more : (xs : List ℕ) (i x : ℕ) → i < length xs → x ≡ get_or xs i x → drop i xs ≡ x ∷ drop (i + 1) xs
names_more xs i x l is = drop_more xs i x l ∙ ap (λ y. y ∷ drop (i + 1) xs) (sym is)

pub moved_more : (xs : List ℕ) (i x : ℕ) (row next : Row) (v : Datum) → i < length xs → x ≡ get_or xs i x
    → v ≡ value_at row (Num x) → next ≡ bind (Num x) row null
    → moved_values (drop i xs) row ≡ v ∷ moved_values (drop (i + 1) xs) next
moved_more xs i x row next v l is isv isn =
    ap (λ ys. moved_values ys row) (names_more xs i x l is)
    ∙ ap₂ (λ w (r : Row). w ∷ moved_values (drop (i + 1) xs) r) (sym isv) (sym isn)

pub has_all_more : (xs : List ℕ) (i x : ℕ) (row next : Row) → i < length xs → x ≡ get_or xs i x
    → HasAll (drop i xs) row → next ≡ bind (Num x) row null → HasAll (drop (i + 1) xs) next
has_all_more xs i x row next l is h isn =
    let has : HasAll (x ∷ drop (i + 1) xs) row = subst (λ ys. HasAll ys row) (names_more xs i x l is) h in
    subst (λ (r : Row). HasAll (drop (i + 1) xs) r) (sym isn)
    (has_all_bind (drop (i + 1) xs) x row null has.1)

-- of the value that is moved, and of another
pub copied_here : (xs : List ℕ) (i y x : ℕ) (row : Row) (v w : Datum) → i < length xs → y ≡ get_or xs i y
    → y ≡ x → w ≡ null
    → copied_values (drop i xs) x row v ≡ v ∷ copied_values (drop (i + 1) xs) x row w
copied_here xs i y x row v w l is same isw =
    ap (λ ys. copied_values ys x row v) (names_more xs i y l is)
    ∙ ap (λ b. unwrap_or (cond b (Some v) (row (Num y))) null
    ∷ copied_values (drop (i + 1) xs) x row (cond b null v)) (eq-eqb x y (sym same))
    ∙ ap (λ u. v ∷ copied_values (drop (i + 1) xs) x row u) (sym isw)

pub copied_other : (xs : List ℕ) (i y x : ℕ) (row : Row) (v u : Datum) → i < length xs → y ≡ get_or xs i y
    → y ≢ x → u ≡ value_at row (Num y)
    → copied_values (drop i xs) x row v ≡ u ∷ copied_values (drop (i + 1) xs) x row v
copied_other xs i y x row v u l is ne isu =
    ap (λ ys. copied_values ys x row v) (names_more xs i y l is)
    ∙ ap (λ b. unwrap_or (cond b (Some v) (row (Num y))) null
    ∷ copied_values (drop (i + 1) xs) x row (cond b null v)) (ne_eqb x y (λ e. ne (sym e)))
    ∙ ap (λ w. w ∷ copied_values (drop (i + 1) xs) x row v) (sym isu)

-- ---- values that are kept by marks

pub record Sifted {X : Type 0} (old : List X) (marks : List Bool) (i kept : ℕ) (now : List X) : Type 0 where
  pub le : kept ≤ i
  pub len : length now ≡ length old
  pub front : take kept now ≡ marked (take i old) (take i marks)
  pub back : drop i now ≡ drop i old

marked_end : {X : Type 0} (xs : List X) (x : X) (marks : List Bool) (m : Bool) → length xs ≡ length marks
    → marked (xs ++ x ∷ []) (marks ++ m ∷ []) ≡ marked xs marks ++ marked (x ∷ []) (m ∷ [])
marked_end [] x [] m e = refl
marked_end [] x (n ∷ marks) m e = absurd (cc)
marked_end (y ∷ xs) x [] m e = absurd (cc)
marked_end (y ∷ xs) x (true ∷ marks) m e = ap (λ zs. y ∷ zs) (marked_end xs x marks m (cc))
marked_end (y ∷ xs) x (false ∷ marks) m e = marked_end xs x marks m (cc)

marked_next : {X : Type 0} (old : List X) (marks : List Bool) (i : ℕ) (d : X) (m : Bool)
    → i < length old → length old ≡ length marks → get_or marks i m ≡ m
    → marked (take (i + 1) old) (take (i + 1) marks)
    ≡ marked (take i old) (take i marks) ++ marked (get_or old i d ∷ []) (m ∷ [])
marked_next old marks i d m l e is =
    ap₂ (λ xs ms. marked xs ms) (take_more old i d l)
    (take_more marks i m (omega arith) ∙ ap (λ b. take i marks ++ b ∷ []) is)
    ∙ marked_end (take i old) (get_or old i d) (take i marks) m
    (omega (arith, length-take i old, length-take i marks))

back_get : {X : Type 0} (old now : List X) (i : ℕ) (d : X) → drop i now ≡ drop i old
    → get_or now i d ≡ get_or old i d
back_get old now i d e =
    let whole : i + 0 ≡ i = omega arith in
    ap (λ k. get_or now k d) (sym whole) ∙ sym (get_or-drop i now 0 d) ∙ ap (λ xs. get_or xs 0 d) e
    ∙ get_or-drop i old 0 d ∙ ap (λ k. get_or old k d) whole

back_more : {X : Type 0} (old now : List X) (i : ℕ) → drop i now ≡ drop i old
    → drop (i + 1) now ≡ drop (i + 1) old
back_more old now i e = sym (drop-drop 1 i now) ∙ ap (λ xs. drop 1 xs) e ∙ drop-drop 1 i old

pub sifted_past : {X : Type 0} (old : List X) (marks : List Bool) (i kept : ℕ) (now : List X)
    → Sifted old marks i kept now → i < length marks → length old ≡ length marks
    → get_or marks i false ≡ false → Sifted old marks (i + 1) kept now
sifted_past [] marks i kept now s l e is = absurd (omega arith)
sifted_past (d ∷ old) marks i kept now s l e is = record {
  le = (let h = s.le in omega arith);
  len = s.len;
  front = s.front ∙ sym (marked_next (d ∷ old) marks i d false (omega arith) e is ∙ append-nil _);
  back = back_more (d ∷ old) now i s.back;
}

swap_front : {X : Type 0} (now : List X) (k i : ℕ) (d : X) → k ≤ i → i < length now
    → take (k + 1) (swap now k i) ≡ take k now ++ get_or now i d ∷ []
swap_front now k i d le l =
    ap (λ xs. take (k + 1) xs) (sym (swap_is now k i d (omega arith) l))
    ∙ elim (cases_lt k i) [
      | inl below ↦
          take-set-le (k + 1) (set now k (get_or now i d)) i (get_or now k d) (omega arith)
          ∙ take_more_set now k (get_or now i d) (omega arith)
      | inr above ↦
          let same : k ≡ i = omega arith in
          ap (λ j. take (k + 1) (set (set now k (get_or now j d)) j (get_or now k d))) (sym same)
          ∙ ap (λ xs. take (k + 1) xs) (set-set now k (get_or now k d) (get_or now k d))
          ∙ take_more_set now k (get_or now k d) (omega arith)
          ∙ ap (λ j. take k now ++ get_or now j d ∷ []) same
    ]

swap_back : {X : Type 0} (now : List X) (k i : ℕ) (d : X) → k ≤ i → i < length now
    → drop (i + 1) (swap now k i) ≡ drop (i + 1) now
swap_back now k i d le l =
    ap (λ xs. drop (i + 1) xs) (sym (swap_is now k i d (omega arith) l))
    ∙ drop-set-lt (i + 1) (set now k (get_or now i d)) i (get_or now k d) (omega arith)
    ∙ drop-set-lt (i + 1) now k (get_or now i d) (omega arith)

pub sifted_kept : {X : Type 0} (old : List X) (marks : List Bool) (i kept : ℕ) (now : List X)
    → Sifted old marks i kept now → i < length marks → length old ≡ length marks
    → get_or marks i true ≡ true → Sifted old marks (i + 1) (kept + 1) (swap now kept i)
sifted_kept [] marks i kept now s l e is = absurd (omega arith)
sifted_kept (d ∷ old) marks i kept now s l e is =
    let le = s.le in
    let len = s.len in
    let within : i < length now = omega arith in
    record {
      le = omega arith;
      len = length-swap now kept i ∙ s.len;
      front =
          swap_front now kept i d le within
          ∙ ap₂ (λ xs y. xs ++ y ∷ []) s.front (back_get (d ∷ old) now i d s.back)
          ∙ sym (marked_next (d ∷ old) marks i d true (omega arith) e is);
      back = swap_back now kept i d le within ∙ back_more (d ∷ old) now i s.back;
    }

pub sifted_all : {X : Type 0} (old : List X) (marks : List Bool) (i kept : ℕ) (now : List X)
    → Sifted old marks i kept now → length marks ≤ i → length old ≡ length marks
    → take kept now ≡ marked old marks
sifted_all old marks i kept now s l e =
    s.front ∙ ap₂ (λ xs ms. marked xs ms) (take_all i old (omega arith)) (take_all i marks l)
