-- Rows that join those that are held, and those that are given: whether all have the same variables.
use Rattle.std.proofs.Common.{◌≡◌, ◌∙◌, ℕ, ◌≤◌, ◌++◌, ◌⊎◌, inl, inr, List, [], length, map, take, drop, reverse, true, Bool, Option, Some, None, Result, Ok, Err, refl, ap, sym, subst, arith}
use Rattle.std.specs.Prelude.{OnOk, IfOk}
use Rattle.std.proofs.lemmas.List.{length-map, length-reverse, take-append-drop, take-map, map-append, reverse-append}
use Rattle.std.proofs.lemmas.List.Elements.{All-nil, All-append, All-map, All-take}
use Rattle.std.proofs.lemmas.Option.{slice_get-get_or}
use Rattle.aql_tree.specs.Tree.{ExprTrees}
use Rattle.aql_meaning.specs.Row.{Row}
use Rattle.aql_meaning.specs.Clauses.{KeyedRow}
use Rattle.aql_block.specs.Tables.{Table, rows_of}
use Rattle.aql_block.specs.laws.BlockRows.{row_has_all, row_only}
use Rattle.aql_exec.specs.Rests.{Rest, Prefixed, Exact}
use Rattle.aql_exec.specs.Counting.{nothing}
use Rattle.aql_exec_rows.specs.declared.keyed.Keyed.{Keyed}
use Rattle.aql_exec_rows.specs.declared.sort.Order.{Order}
use Rattle.aql_exec_rows.specs.Keys.{with_keys, keyed_of, keyed_in, rows_alone}
use Rattle.aql_exec_rows.specs.Sorting.{HasExactly, AllHave, AreFew, LeavesRows, left_order}

-- more is known where a call succeeded
pub on_ok : {A E P Q : Type 0} (r : Result A E) → OnOk r P → (P → Q) → OnOk r Q
on_ok (Ok x) p f = f p
on_ok (Err e) p f = tt

-- the rows of a block have its registers
pub block_has : (es : ExprTrees) (t : Table) → AllHave t.registers (map (with_keys es) (rows_of t))
block_has es t = All-map (λ (k : KeyedRow). HasExactly t.registers k.1) (with_keys es) (rows_of t) (λ k d l.
    let at = slice_get-get_or (rows_of t) k d l in (row_has_all t k _ at, row_only t k _ at))

-- and so do all, where those that were held have the same
pub joined_have : (es : ExprTrees) (uniform : Bool) (registers : List ℕ) (held : List Keyed)
    (registers' : List ℕ) (after : List KeyedRow) (block : Table) → registers' ≡ block.registers
    → (held ≡ []) ⊎ ((uniform ≡ true) × (registers ≡ block.registers))
    → (uniform ≡ true → AllHave registers (keyed_in held))
    → after ≡ keyed_in held ++ map (with_keys es) (rows_of block) → AllHave registers' after
joined_have es uniform registers held registers' after block r alike had e =
    subst (λ z. AllHave z after) (sym r)
    (subst (λ z. AllHave block.registers z) (sym e)
    (All-append (λ (k : KeyedRow). HasExactly block.registers k.1) (keyed_in held)
    (map (with_keys es) (rows_of block))
    (old alike) (block_has es block)))
  where
    old : (held ≡ []) ⊎ ((uniform ≡ true) × (registers ≡ block.registers))
        → AllHave block.registers (keyed_in held)
    old (inl n) = subst (λ z. AllHave block.registers (keyed_in z)) (sym n)
        (All-nil (λ (k : KeyedRow). HasExactly block.registers k.1))
    old (inr u) = subst (λ z. AllHave z (keyed_in held)) u.1 (had u.0)

-- ---- rows that are given

pub none_ahead : {v : Exact} (rows : List Row) (r : Rest) → rows ≡ [] → Prefixed v rows nothing r r
none_ahead rows r e = record {
  rows = ap (λ z. z ++ r.rows) (sym e);
  counts = λ c. omega arith;
  exact = λ c y. omega arith;
}

-- of the sorted rows the first are given or skipped
pub front_leaves : {v : Exact} (before after : Order) (front rows : List Row) (r : Rest)
    → before.sorted ≡ true → after.sorted ≡ true
    → rows_alone (reverse (keyed_in before.rows.items))
    ≡ front ++ rows_alone (reverse (keyed_in after.rows.items))
    → left_order after rows r → (b : Rest) × Prefixed v front nothing r b × left_order before rows b
front_leaves before after front rows r s t e h =
    let left : r.rows ≡ rows_alone (reverse (keyed_in after.rows.items)) =
    subst (λ b. LeavesRows b after rows r.rows) t h.0 in (
      record { rows = front ++ r.rows; counts = r.counts },
      record { rows = refl; counts = λ c. omega arith; exact = λ c y. omega arith },
      (
        subst (λ b. LeavesRows b before rows (front ++ r.rows)) (sym s) (ap (λ z. front ++ z) left ∙ sym e),
        h.1,
      ),
    )

pub row_count : (ks : List Keyed) → length (rows_alone (reverse (keyed_in ks))) ≡ length ks
row_count ks =
    length-map (reverse (keyed_in ks)) (λ (k : KeyedRow). k.1) ∙ length-reverse (keyed_in ks)
    ∙ length-map ks keyed_of

-- the last that are held are the first
pub last_cut : (n : ℕ) (ks : List Keyed)
    → rows_alone (reverse (keyed_in ks))
    ≡ rows_alone (reverse (keyed_in (drop n ks))) ++ rows_alone (reverse (keyed_in (take n ks)))
last_cut n ks =
    ap (λ z. rows_alone (reverse (keyed_in z))) (sym (take-append-drop n ks))
    ∙ ap (λ z. rows_alone (reverse z)) (map-append keyed_of (take n ks) (drop n ks))
    ∙ ap rows_alone (reverse-append (keyed_in (take n ks)) (keyed_in (drop n ks)))
    ∙ map-append (λ (k : KeyedRow). k.1) (reverse (keyed_in (drop n ks))) (reverse (keyed_in (take n ks)))

-- fewer are few
pub fewer_few : (limit : Option ℕ) (m n : ℕ) → m ≤ n → AreFew limit n → AreFew limit m
fewer_few None m n l h = tt
fewer_few (Some count) m n l h = omega (arith, l, h)

pub take_has : (xs : List ℕ) (n : ℕ) (ks : List Keyed) → AllHave xs (keyed_in ks)
    → AllHave xs (keyed_in (take n ks))
take_has xs n ks h = subst (λ z. AllHave xs z) (take-map keyed_of n ks)
    (All-take (λ (k : KeyedRow). HasExactly xs k.1) n (keyed_in ks) h)

-- ---- what calls returned

pub if_ok : {A E : Type 0} {P Q : A → Type 0} (r : Result A E) → IfOk r P → ((x : A) → P x → Q x) → IfOk r Q
if_ok (Ok x) p f = f x p
if_ok (Err e) p f = tt

pub both_on_ok : {A E P R : Type 0} {Q : A → Type 0} (r : Result A E) → OnOk r P → IfOk r Q
    → ((x : A) → P → Q x → R) → OnOk r R
both_on_ok (Ok x) p q f = f x p q
both_on_ok (Err e) p q f = tt
