-- The rows of a run: what came so far, with what may still come, is a rest of the start.
use Rattle.std.proofs.Common.{ℕ, ◌≡◌, ◌-◌, ◌≤◌, ◌++◌, inr, List, [], ◌∷◌, length, append_assoc, refl, sym, subst, ap, ◌∙◌, arith}
use Rattle.std.proofs.lemmas.Grind.{flat_map-append}
use Rattle.aql_meaning.specs.Row.{Row}
use Rattle.aql_block.specs.declared.calls.Call.{Call}
use Rattle.aql_block.specs.declared.tally.Tally.{Tally}
use Rattle.aql_block.specs.declared.calls.Progress.{Progress}
use Rattle.aql_block.specs.declared.calls.Progress.TheVariants.{Done}
use Rattle.aql_block.specs.Tables.{Table, rows_of}
use Rattle.aql_exec.specs.Rests.{Counts, Exact, IsOver, Rest, Prefixed}
use Rattle.aql_exec.specs.Rising.{IsExact, Rises}
use Rattle.aql_exec.specs.declared.surroundings.Surroundings
use Rattle.aql_exec.specs.Steps.{Follows}
use Rattle.aql_exec.specs.Lines.{Pick}
use Rattle.aql_engine.specs.Run.{rows_in, PickedBy}
use Rattle.aql_engine.proofs.Leading.{plus}

empty_of : (s : List Row) → length s ≤ 0 → s ≡ []
empty_of [] h = refl
empty_of (x ∷ s) h = absurd (omega (arith, h))

right_none : (s : List Row) → s ++ [] ≡ s
right_none [] = refl
right_none (x ∷ s) = ap (λ rest. x ∷ rest) (right_none s)

pub rows_pushed : (blocks : List Table) (block : Table)
    → rows_in (blocks ++ block ∷ []) ≡ rows_in blocks ++ rows_of block
rows_pushed blocks block = flat_map-append rows_of blocks (block ∷ [])
    ∙ ap (λ rows. rows_in blocks ++ rows) (right_none (rows_of block))

pub no_rows : (blocks : List Table) (block : Table) → length (rows_of block) ≤ 0
    → rows_in blocks ≡ rows_in blocks ++ rows_of block
no_rows blocks block h = sym (ap (λ rows. rows_in blocks ++ rows) (empty_of (rows_of block) h)
    ∙ right_none (rows_in blocks))

-- rows came, and none was skipped
pub rows_came : {v : Exact} (so_far came s : List Row) (d e : Counts) (r b q : Rest) → length s ≤ 0
    → Prefixed v (s ++ came) e r b → Prefixed v so_far d b q → Prefixed v (so_far ++ came) (plus d e) r q
rows_came so_far came s d e r b q l h k =
    let none : s ≡ [] = empty_of s l in
    record {
      rows = k.rows ∙ ap (λ rows. so_far ++ rows) (h.rows ∙ ap (λ z. (z ++ came) ++ r.rows) none)
          ∙ simp append_assoc;
      counts = λ c. (let m = h.counts c in let n = k.counts c in omega (arith, m, n));
      exact = λ c y. (let m = h.exact c y in let n = k.exact c y in omega (arith, m, n));
    }

-- a message was delivered
pub later : {v : Exact} (rows : List Row) (d e : Counts) (r b q : Rest) → Prefixed v [] e r b
    → Prefixed v rows d b q → Prefixed v rows (plus d e) r q
later rows d e r b q h k = record {
  rows = k.rows ∙ ap (λ rest. rows ++ rest) h.rows;
  counts = λ c. (let m = h.counts c in let n = k.counts c in omega (arith, m, n));
  exact = λ c y. (let m = h.exact c y in let n = k.exact c y in omega (arith, m, n));
}

-- all came
pub all_came : {v : Exact} (rows : List Row) (d : Counts) (r q : Rest) → r.rows ≡ [] → Prefixed v rows d r q
    → rows ≡ q.rows
all_came rows d r q none h = sym (h.rows ∙ ap (λ rest. rows ++ rest) none ∙ right_none rows)

-- all of a rest was counted, where nothing is left
pub rises_within : {W : Type 0} (p : Surroundings.Ghosts W) (v : Exact) (t t' : Tally) (w w' : W) (d : Counts)
    (rows : List Row) (r q : Rest) → Rises p (IsExact v) t w t' w' d → Prefixed v rows d r q → IsOver v r
    → Rises p (IsExact v) t w t' w' q.counts
rises_within p v t t' w w' d rows r q h k over = record {
  added = h.added;
  most = λ c. (let m = h.most c in let n = k.counts c in omega (arith, m, n));
  exact = λ c y. (let m = h.exact c y in let n = k.exact c y in let z = over.1 c y in omega (arith, m, n, z));
  full = h.full;
  index = h.index;
  dropped = h.dropped;
  own_full = h.own_full;
  own_index = h.own_index;
  sent = h.sent;
  opened = h.opened;
  closed = h.closed;
}

-- one more was picked
pub picked_more : {P : Type 0} (picks : P → ℕ → ℕ → P → Type 0) (a b c : P) (ks : List Pick) (k : Pick)
    → PickedBy picks a ks b → picks b k.among k.place c → PickedBy picks a (ks ++ k ∷ []) c
picked_more picks a b c [] k h p = (c, subst (λ z. picks z k.among k.place c) h p, refl)
picked_more picks a b c (j ∷ ks) k h p = (h.0, h.1, picked_more picks h.0 b c ks k h.2 p)

-- a call for all rows follows one for all rows
pub follows_all : (c d : Call) (skipped rows : ℕ) (progress : Progress) → (progress ≡ Done → ⊥) → c.offset ≡ 0
    → c.hard ≡ 18446744073709551615 → d.offset ≡ 0 → d.hard ≡ 18446744073709551615
    → Follows c skipped rows progress d
follows_all c d skipped rows progress n e f e' f' = record {
  not_done = n;
  offset = e' ∙ sym (none_left c.offset skipped e);
  hard = inr (f, f');
}
  where
    none_left : (a b : ℕ) → a ≡ 0 → a - b ≡ 0
    none_left a b h = omega (arith, h)
