-- LET of a subquery: what an answer and a step of an input leave.
use Rattle.std.proofs.Common.{◌≡◌, ◌∙◌, ℕ, zero, suc, ◌+◌, ◌-◌, ◌*◌, ◌<◌, ◌≤◌, ◌++◌, List, [], ◌∷◌, length, drop, take, Bool, true, false, cond, refl, sym, ap, ap₂, min, subst, arith, append_assoc, length-drop}
use Rattle.std.specs.Prelude.{map, slice_get, None}
use Rattle.std.proofs.lemmas.List.{nil_from_length, drop_all, append-nil, map-append, length-take, take_min, drop_min, take-map, drop-map}
use Rattle.aql_value.specs.Datum.{Datum}
use Rattle.aql_value.specs.Contents.{list}
use Rattle.aql_tree.specs.declared.syntax.Ident.{Ident}
use Rattle.aql_meaning.specs.Row.{Row, bind}
use Rattle.aql_meaning.specs.Clauses.{with_values}
use Rattle.aql_plan.specs.Runs.{result_of}
use Rattle.aql_block.specs.declared.calls.Step.{Step}
use Rattle.aql_exec.specs.Rests.{Counter, Counts, Exact, IsOver, Rest, with_rows, Prefixed}
use Rattle.aql_exec.specs.Steps.{Continues, given}
use Rattle.aql_exec.specs.Operators.{EachRow}
use Rattle.aql_exec.specs.Counting.{nothing}
use Rattle.aql_exec.specs.laws.Telling.{led_none}
use Rattle.aql_exec.specs.laws.Handing.{none_unreported}
use Rattle.aql_exec_rows.specs.Subqueries.{Follow, Leaves, budget_of}

-- ---- values of rows

pub no_values : (x : Ident) (rows : List Row) → with_values x rows [] ≡ []
no_values x [] = refl
no_values x (row ∷ rows) = refl

-- one more row gets its value
pub one_more : (x : Ident) (held : List Row) (values : List Datum) (v : Datum) → length values < length held
    → (row : Row) × (rest : List Row) × (drop (length values) held ≡ row ∷ rest)
    × (drop (length (values ++ v ∷ [])) held ≡ rest)
    × (with_values x held (values ++ v ∷ []) ≡ with_values x held values ++ bind x row v ∷ [])
one_more x [] values v l = absurd (omega (arith, l))
one_more x (row ∷ rows) [] v l = (row, rows, refl, refl, ap (λ z. bind x row v ∷ z) (no_values x rows))
one_more x (row ∷ rows) (u ∷ values) v l =
    let m = one_more x rows values v (omega (arith, l)) in
    (m.0, m.1, m.2, m.3, ap (λ z. bind x row u ∷ z) m.4)

-- the values of the first rows, and of the others
pub values_split : (x : Ident) (n : ℕ) (rows : List Row) (values : List Datum)
    → with_values x rows values
    ≡ with_values x (take n rows) (take n values) ++ with_values x (drop n rows) (drop n values)
values_split x zero rows values = refl
values_split x (suc n) [] values = refl
values_split x (suc n) (row ∷ rows) [] = sym (no_values x (drop n rows))
values_split x (suc n) (row ∷ rows) (v ∷ values) = ap (λ z. bind x row v ∷ z) (values_split x n rows values)

pub length_values : (x : Ident) (rows : List Row) (values : List Datum) → length values ≡ length rows
    → length (with_values x rows values) ≡ length rows
length_values x [] values e = refl
length_values x (row ∷ rows) [] e = absurd (omega (arith, e))
length_values x (row ∷ rows) (v ∷ values) e = ap suc (length_values x rows values (omega (arith, e)))

-- ---- answers

module _ (body : Row → Rest → Type 0) (x : Ident) where
  -- all that are held have their values: the first of them are given
  pub ready_given : {v : Exact} (begun : Bool) (held held' : List Row) (values values' results : List Datum)
      (below more : Rest) (step : Step) (skipped : List Row) → length values ≡ length held
      → length values' ≡ length held' → length skipped ≡ step.skipped
      → with_values x held values ≡ (skipped ++ given step) ++ with_values x held' values'
      → Continues v (Leaves false begun body x held values results below more) nothing step
      (Leaves false begun body x held' values' results below more)
  ready_given begun held held' values values' results below more step skipped n n' l e r h =
      let none : drop (length values) held ≡ [] = drop_all (length values) held (omega (arith, n)) in
      let none' : drop (length values') held' ≡ [] = drop_all (length values') held' (omega (arith, n')) in (
        skipped,
        record { rows = with_values x held values ++ h.0; counts = r.counts },
        l,
        record {
          rows = ap (λ z. z ++ h.0) e ∙ append_assoc (skipped ++ given step) (with_values x held' values') h.0
              ∙ ap (λ z. (skipped ++ given step) ++ z) (sym h.3);
          counts = λ c. omega arith;
          exact = λ c y. omega arith;
        },
        (
          h.0,
          h.1,
          subst (λ z. EachRow body x (z ++ below.rows) h.0 h.1) (none' ∙ sym none) h.2,
          refl,
          h.4,
        ),
      )

  -- what the run before counts is over
  dropped_none : (begun : Bool) (n : ℕ) → (begun ≡ true → n ≡ 0) → cond begun n 0 ≡ 0
  dropped_none true n h = h refl
  dropped_none false n h = refl

  -- a body was begun for the next row
  pub body_begun : {v : Exact} (begun : Bool) (held : List Row) (values results : List Datum) (row : Row)
      (rest : List Row)
      (below old list r : Rest) → (begun ≡ true → (c : Counter) → v c ≡ true → old.counts c ≡ 0)
      → drop (length values) held ≡ row ∷ rest → body row list
      → Leaves true true body x held values [] below list r
      → (b : Rest) × Prefixed v [] nothing r b × Leaves false begun body x held values results below old b
  body_begun begun held values results row rest below old list r over e p h =
      let f = subst (λ z. Follow true body x (map result_of list.rows) (z ++ below.rows) h.0 h.1) e h.2 in
      let each : EachRow body x ((row ∷ rest) ++ below.rows) h.0 (λ c. list.counts c + h.1 c) =
      (list, f.0, h.1, p, f.1, f.2, λ c. refl) in (
        record {
          rows = r.rows;
          counts = λ c. below.counts c + (cond begun (old.counts c) 0 + (list.counts c + h.1 c));
        },
        record {
          rows = refl;
          counts = λ c. (let n = h.4 c in omega (arith, n));
          exact = λ c y. (let n = h.4 c in let z = dropped_none begun (old.counts c) (λ b. over b c y) in
              omega (arith, n, z));
        },
        (
          h.0,
          λ c. list.counts c + h.1 c,
          subst (λ z. EachRow body x (z ++ below.rows) h.0 (λ c. list.counts c + h.1 c)) (sym e) each,
          h.3,
          λ c. refl,
        ),
      )

  -- ---- steps of inputs

  -- rows of the input came, where none was held
  pub came_below : {v : Exact} (begun : Bool) (block s0 s : List Row) (results : List Datum) (d : Counts)
      (i' i t b more r : Rest) → length s0 ≡ 0 → length s ≡ 0 → Prefixed v (s ++ block) d t b
      → i' ≡ with_rows (s0 ++ s) t → i ≡ with_rows s0 b
      → Leaves false begun body x block [] results i' more r
      → (q : Rest) × Prefixed v [] d r q × Leaves false begun body x [] [] results i more q
  came_below begun block s0 s results d i' i t b more r l0 l a e' e h =
      let none0 = nil_from_length s0 l0 in
      let none = nil_from_length s l in
      let new : i' ≡ t = e' ∙ ap (λ z. with_rows (z ++ s) t) none0 ∙ ap (λ z. with_rows z t) none in
      let old : i ≡ b = e ∙ ap (λ z. with_rows z b) none0 in
      let rows : block ++ i'.rows ≡ i.rows = ap (λ (z : Rest). block ++ z.rows) new
      ∙ ap (λ z. (z ++ block) ++ t.rows) (sym none) ∙ sym a.rows ∙ ap (λ (z : Rest). z.rows) (sym old) in
      let count = λ (c : Counter). ap (λ (z : Rest). z.counts c) new in
      let count0 = λ (c : Counter). ap (λ (z : Rest). z.counts c) old in (
        record {
          rows = r.rows;
          counts = λ c. i.counts c + (cond begun (more.counts c) 0 + h.1 c);
        },
        record {
          rows = refl;
          counts = λ c. (let n = h.4 c in let m = a.counts c in let j = count c in let k = count0 c in
              omega (arith, n, m, j, k));
          exact = λ c y. (let n = h.4 c in let m = a.exact c y in let j = count c in let k = count0 c in
              omega (arith, n, m, j, k));
        },
        (
          h.0,
          h.1,
          subst (λ z. EachRow body x z h.0 h.1) rows h.2,
          h.3 ∙ ap (λ z. z ++ h.0) (no_values x block),
          λ c. refl,
        ),
      )

  -- results of the body came
  pub came_body : {v : Exact} (held block s0 s : List Row) (values results results' : List Datum) (d : Counts)
      (i' i t b below r : Rest) → results' ≡ results ++ map result_of block → length s0 ≡ 0 → length s ≡ 0
      → Prefixed v (s ++ block) d t b → i' ≡ with_rows (s0 ++ s) t → i ≡ with_rows s0 b
      → Leaves true true body x held values results' below i' r
      → (q : Rest) × Prefixed v [] d r q × Leaves true true body x held values results below i q
  came_body held block s0 s values results results' d i' i t b below r g l0 l a e' e h =
      let none0 = nil_from_length s0 l0 in
      let none = nil_from_length s l in
      let new : i' ≡ t = e' ∙ ap (λ z. with_rows (z ++ s) t) none0 ∙ ap (λ z. with_rows z t) none in
      let old : i ≡ b = e ∙ ap (λ z. with_rows z b) none0 in
      let rows : i.rows ≡ block ++ t.rows = ap (λ (z : Rest). z.rows) old ∙ a.rows
      ∙ ap (λ z. (z ++ block) ++ t.rows) none in
      let all : results' ++ map result_of i'.rows ≡ results ++ map result_of i.rows =
      ap (λ z. z ++ map result_of i'.rows) g
      ∙ ap (λ (z : Rest). (results ++ map result_of block) ++ map result_of z.rows) new
      ∙ append_assoc results (map result_of block) (map result_of t.rows)
      ∙ ap (λ z. results ++ z) (sym (map-append result_of block t.rows))
      ∙ ap (λ z. results ++ map result_of z) (sym rows) in
      let count = λ (c : Counter). ap (λ (z : Rest). z.counts c) new in
      let count0 = λ (c : Counter). ap (λ (z : Rest). z.counts c) old in (
        record {
          rows = r.rows;
          counts = λ c. below.counts c + (i.counts c + h.1 c);
        },
        record {
          rows = refl;
          counts = λ c. (let n = h.4 c in let m = a.counts c in let j = count c in let k = count0 c in
              omega (arith, n, m, j, k));
          exact = λ c y. (let n = h.4 c in let m = a.exact c y in let j = count c in let k = count0 c in
              omega (arith, n, m, j, k));
        },
        (
          h.0,
          h.1,
          subst (λ z. Follow true body x z (drop (length values) held ++ below.rows) h.0 h.1) all h.2,
          h.3,
          λ c. refl,
        ),
      )

  -- the last results came: the row at hand has its value
  pub body_ended : {v : Exact} (held block s0 s : List Row) (values results results' other : List Datum)
      (d : Counts) (i' i t b below r : Rest) → results' ≡ results ++ map result_of block → length s0 ≡ 0
      → length s ≡ 0 → Prefixed v (s ++ block) d t b → i' ≡ with_rows (s0 ++ s) t → i ≡ with_rows s0 b
      → length values < length held → length i'.rows ≡ 0
      → Leaves false true body x held (values ++ list results' ∷ []) other below i' r
      → (q : Rest) × Prefixed v [] d r q × Leaves true true body x held values results below i q
  body_ended held block s0 s values results results' other d i' i t b below r g l0 l a e' e short n h =
      let none0 = nil_from_length s0 l0 in
      let none = nil_from_length s l in
      let new : i' ≡ t = e' ∙ ap (λ z. with_rows (z ++ s) t) none0 ∙ ap (λ z. with_rows z t) none in
      let old : i ≡ b = e ∙ ap (λ z. with_rows z b) none0 in
      let last : t.rows ≡ [] = ap (λ (z : Rest). z.rows) (sym new) ∙ nil_from_length i'.rows n in
      let rows : i.rows ≡ block = ap (λ (z : Rest). z.rows) old ∙ a.rows
      ∙ ap (λ z. (z ++ block) ++ t.rows) none ∙ ap (λ z. block ++ z) last ∙ append-nil block in
      let all : results' ≡ results ++ map result_of i.rows =
      g ∙ ap (λ z. results ++ map result_of z) (sym rows) in
      let m = one_more x held values (list results') short in
      let count = λ (c : Counter). ap (λ (z : Rest). z.counts c) new in
      let count0 = λ (c : Counter). ap (λ (z : Rest). z.counts c) old in
      let each : EachRow body x (m.1 ++ below.rows) h.0 h.1 =
      subst (λ z. EachRow body x (z ++ below.rows) h.0 h.1) m.3 h.2 in
      let follow : Follow true body x results' ((m.0 ∷ m.1) ++ below.rows)
      (bind x m.0 (list results') ∷ h.0) h.1 =
      (h.0, each, refl) in (
        record {
          rows = r.rows;
          counts = λ c. below.counts c + (i.counts c + h.1 c);
        },
        record {
          rows = refl;
          counts = λ c. (let p = h.4 c in let q = a.counts c in let j = count c in let k = count0 c in
              omega (arith, p, q, j, k));
          exact = λ c y. (let p = h.4 c in let q = a.exact c y in let j = count c in let k = count0 c in
              omega (arith, p, q, j, k));
        },
        (
          bind x m.0 (list results') ∷ h.0,
          h.1,
          subst (λ z. Follow true body x z (drop (length values) held ++ below.rows)
              (bind x m.0 (list results') ∷ h.0) h.1) all
              (subst (λ z. Follow true body x results' (z ++ below.rows)
              (bind x m.0 (list results') ∷ h.0) h.1) (sym m.2) follow),
          h.3 ∙ ap (λ z. z ++ h.0) m.4
              ∙ append_assoc (with_values x held values) (bind x m.0 (list results') ∷ []) h.0,
          λ c. refl,
        ),
      )

-- ---- the first of the rows that are ready

module _ {V : Type 0} (most : ℕ) (held block held' : List Row) (values front rest : List V)
    (b : block ≡ take most held) (h : held' ≡ drop most held) (f : front ≡ take (length block) values)
    (r : rest ≡ drop (length block) values) (same : length values ≡ length held) where
  cut_at : length block ≡ min most (length held)
  cut_at = ap length b ∙ length-take most held

  pub cut_lengths : (length rest ≡ length held') × (length front ≡ length block)
      × (length rest + length block ≡ length values)
  cut_lengths =
      let n = cut_at in
      let i = ap length h ∙ length-drop most held in
      let j = ap length f ∙ length-take (length block) values in
      let k = ap length r ∙ length-drop (length block) values in
      (omega (arith, n, i, k, same), omega (arith, n, j, same), omega (arith, n, k, same))

  pub cut_some : 1 ≤ most → 1 ≤ length held → (1 ≤ length block) × (length block ≤ most)
  cut_some m l = (let n = cut_at in (omega (arith, n, m, l), omega (arith, n)))

  pub cut_values : (x : Ident) (datum : V → Datum)
      → with_values x held (map datum values)
      ≡ with_values x block (map datum front) ++ with_values x held' (map datum rest)
  cut_values x datum =
      let n = length block in
      let block_is : take n held ≡ block = ap (λ k. take k held) cut_at ∙ take_min most held ∙ sym b in
      let held_is : drop n held ≡ held' = ap (λ k. drop k held) cut_at ∙ drop_min most held ∙ sym h in
      let front_is : take n (map datum values) ≡ map datum front =
      take-map datum n values ∙ ap (map datum) (sym f) in
      let rest_is : drop n (map datum values) ≡ map datum rest =
      drop-map datum n values ∙ ap (map datum) (sym r) in
      values_split x n held (map datum values)
      ∙ ap₂ (λ s t. s ++ t) (ap₂ (with_values x) block_is front_is) (ap₂ (with_values x) held_is rest_is)

-- ---- answers over all inputs

module _ (body : Row → Rest → Type 0) (x : Ident) (s : ℕ → List Row) (ins ins' : ℕ → Rest)
    (lens : (j : ℕ) → length (s j) ≡ 0) (eqs : (j : ℕ) → ins' j ≡ with_rows (s j) (ins j)) where
  -- the inputs are as they were
  same_inputs : (inside begun : Bool) (held : List Row) (values results : List Datum) (r : Rest)
      → Leaves inside begun body x held values results (ins 0) (ins 1) r
      → Leaves inside begun body x held values results (ins' 0) (ins' 1) r
  same_inputs inside begun held values results r h =
      subst (λ z. Leaves inside begun body x held values results z (ins' 1) r)
      (sym (none_unreported (s 0) (ins' 0) (ins 0) (lens 0) (eqs 0)))
      (subst (λ z. Leaves inside begun body x held values results (ins 0) z r)
      (sym (none_unreported (s 1) (ins' 1) (ins 1) (lens 1) (eqs 1))) h)

  -- nothing is reported
  pub still : {v : Exact} (inside begun : Bool) (held : List Row) (values results : List Datum) (step : Step)
      → step.skipped ≡ 0 → given step ≡ []
      → Continues v (Leaves inside begun body x held values results (ins' 0) (ins' 1)) nothing step
      (Leaves inside begun body x held values results (ins 0) (ins 1))
  still inside begun held values results step l g =
      led_none step l g (λ r h. same_inputs inside begun held values results r h)

  -- rows that are ready are given
  pub rows_given : {v : Exact} (inside begun : Bool) (held held' : List Row)
      (values values' results : List Datum) (step : Step) (skipped : List Row) → inside ≡ false
      → length values ≡ length held → length values' ≡ length held' → length skipped ≡ step.skipped
      → with_values x held values ≡ (skipped ++ given step) ++ with_values x held' values'
      → Continues v (Leaves inside begun body x held values results (ins' 0) (ins' 1)) nothing step
      (Leaves inside begun body x held' values' results (ins 0) (ins 1))
  rows_given {v = v} inside begun held held' values values' results step skipped i n n' l e =
      subst (λ b. Continues v (Leaves b begun body x held values results (ins' 0) (ins' 1)) nothing step
      (Leaves b begun body x held' values' results (ins 0) (ins 1))) (sym i) (λ r h.
      let led = ready_given body x begun held held' values values' results (ins 0) (ins 1) step skipped
      n n' l e r h in
      (led.0, led.1, led.2, led.3, same_inputs false begun held values results led.1 led.4))

-- nothing follows where no row is held and none comes
pub none_left : {v : Exact} (body : Row → Rest → Type 0) (x : Ident) (inside begun : Bool) (held : List Row)
    (values results : List Datum) (below more r : Rest) → inside ≡ false → held ≡ [] → IsOver v below
    → (begun ≡ true → (c : Counter) → v c ≡ true → more.counts c ≡ 0)
    → Leaves inside begun body x held values results below more r → IsOver v r
none_left body x inside begun held values results below more r i e n over h =
    let follow = subst (λ b. Follow b body x (results ++ map result_of more.rows)
    (drop (length values) held ++ below.rows) h.0 h.1) i h.2 in
    let none : drop (length values) held ≡ [] = ap (drop (length values)) e
    ∙ drop_all (length values) [] (omega arith) in
    let each : EachRow body x [] h.0 h.1 = subst (λ z. EachRow body x z h.0 h.1)
    (ap (λ z. z ++ below.rows) none ∙ n.0) follow in (
      h.3 ∙ ap (λ z. with_values x z values ++ h.0) e ∙ each.0,
      λ c y. (let m = h.4 c in let p = n.1 c y in
          let z = dropped_none body x begun (more.counts c) (λ b. over b c y) in let q = each.1 c in
          omega (arith, m, p, z, q)),
    )

-- where no row is found all were passed
pub passed : {X : Type 0} (xs : List X) (i : ℕ) → None ≡ slice_get xs i → length xs ≤ i
passed [] i e = omega arith
passed (x ∷ xs) zero e = absurd (cc)
passed (x ∷ xs) (suc i) e = (let n = passed xs i e in omega (arith, n))

-- ---- budget

pub budget_begun : (done : Bool) (f ready waiting : ℕ) → 1 ≤ waiting
    → (budget_of done true f ready waiting + 1 * f) + 1 ≤ budget_of done false f ready waiting
budget_begun done f ready zero l = absurd (omega (arith, l))
budget_begun done f ready (suc k) l =
    let e : suc k - 1 ≡ k = omega arith in
    let m : suc k * (f + 3) ≡ (k * (f + 3)) + (f + 3) = omega arith in
    let n : (suc k - 1) * (f + 3) ≡ k * (f + 3) = ap (λ z. z * (f + 3)) e in
    omega (arith, m, n)

-- ---- steps that were taken, in the state that asked for them

module _ {v : Exact} (body : Row → Rest → Type 0) (x : Ident) (begun : Bool) (held block s0 s : List Row)
    (d : Counts) (i' i t b other' other r : Rest) (l0 : length s0 ≡ 0) (l : length s ≡ 0)
    (a : Prefixed v (s ++ block) d t b)
    (e' : i' ≡ with_rows (s0 ++ s) t) (e : i ≡ with_rows s0 b) (o : other' ≡ other) where
  pub taken_below : (inside : Bool) (values results : List Datum) → inside ≡ false → held ≡ [] → values ≡ []
      → Leaves inside begun body x block values results i' other' r
      → (q : Rest) × Prefixed v [] d r q × Leaves inside begun body x held values results i other q
  taken_below inside values results n h v left =
      let left1 = subst (λ z. Leaves z begun body x block values results i' other' r) n left in
      let left2 = subst (λ z. Leaves false begun body x block z results i' other' r) v left1 in
      let left3 = subst (λ z. Leaves false begun body x block [] results i' z r) o left2 in
      let q = came_below body x begun block s0 s results d i' i t b other r l0 l a e' e left3 in
      let back1 = subst (λ z. Leaves false begun body x [] z results i other q.0) (sym v) q.2 in
      let back2 = subst (λ z. Leaves false begun body x z values results i other q.0) (sym h) back1 in
      (q.0, q.1, subst (λ z. Leaves z begun body x held values results i other q.0) (sym n) back2)

  pub taken_body : (inside : Bool) (values results results' : List Datum) → inside ≡ true → begun ≡ true
      → results' ≡ results ++ map result_of block
      → Leaves inside begun body x held values results' other' i' r
      → (q : Rest) × Prefixed v [] d r q × Leaves inside begun body x held values results other i q
  taken_body inside values results results' n g m left =
      let left1 = subst (λ z. Leaves z begun body x held values results' other' i' r) n left in
      let left2 = subst (λ z. Leaves true z body x held values results' other' i' r) g left1 in
      let left3 = subst (λ z. Leaves true true body x held values results' z i' r) o left2 in
      let q = came_body body x held block s0 s values results results' d i' i t b other r m l0 l a e' e
      left3 in
      let back1 = subst (λ z. Leaves true z body x held values results other i q.0) (sym g) q.2 in
      (q.0, q.1, subst (λ z. Leaves z begun body x held values results other i q.0) (sym n) back1)

  pub taken_last : (inside : Bool) (values values' results results' none : List Datum) → inside ≡ true
      → begun ≡ true → results' ≡ results ++ map result_of block → values' ≡ values ++ list results' ∷ []
      → length values < length held → length i'.rows ≡ 0
      → Leaves false begun body x held values' none other' i' r
      → (q : Rest) × Prefixed v [] d r q × Leaves inside begun body x held values results other i q
  taken_last inside values values' results results' none n g m v short ended left =
      let left1 = subst (λ z. Leaves false z body x held values' none other' i' r) g left in
      let left2 = subst (λ z. Leaves false true body x held z none other' i' r) v left1 in
      let left3 = subst (λ z. Leaves false true body x held (values ++ list results' ∷ []) none z i' r)
      o left2 in
      let q = body_ended body x held block s0 s values results results' none d i' i t b other r m l0 l a e' e
      short ended left3 in
      let back1 = subst (λ z. Leaves true z body x held values results other i q.0) (sym g) q.2 in
      (q.0, q.1, subst (λ z. Leaves z begun body x held values results other i q.0) (sym n) back1)
