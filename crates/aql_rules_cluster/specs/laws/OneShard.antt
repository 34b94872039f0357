-- A fragment of which one shard alone gives rows gives the same where it runs on this shard alone.
use Rattle.std.proofs.Common.{◌≡◌, ◌∙◌, ℕ, zero, suc, ◌<◌, ◌≤◌, List, [], ◌∷◌, ◌++◌, length, Bool, true, false, refl, ap, sym, subst, arith, ⊎_elim, append_assoc}
use Rattle.std.specs.Prelude.{◌==◌, Some, slice_get, slice_set}
use Rattle.std.specs.List.{AllZip, AllByRecursion}
use Rattle.std.proofs.lemmas.Bool.{eqb-true, cases_lt}
use Rattle.aql_value.specs.Database.{Database}
use Rattle.aql_tree.specs.Tree.{ExprTrees}
use Rattle.aql_meaning.specs.AtRows.{row_before}
use Rattle.aql_meaning.specs.Merges.{NotBefore, Merged}
use Rattle.aql_meaning.specs.Row.{Row}
use Rattle.aql_meaning.specs.Uses.{Uses, Agree}
use Rattle.aql_plan.specs.declared.facts.Facts.{Facts}
use Rattle.aql_plan.specs.Facts.{Meets, numbers_below}
use Rattle.aql_plan.specs.Plan.{Plan, Over, Gather}
use Rattle.aql_plan.specs.Refines.{dataset, RefinesFor}
use Rattle.aql_plan.specs.Runs.{Inside, Outside, Runs, Feeds, targets, sent_to}
use Rattle.aql_plan_laws.specs.laws.Agreement.{rows_agree}

-- ---- a merge of one list and of empty ones

abbrev Empty : List Row → Type 0
Empty rows = rows ≡ []

get_there : (before after : List (List Row)) (l : List Row)
    → slice_get (before ++ l ∷ after) (length before) ≡ Some l
get_there [] after l = refl
get_there (m ∷ before) after l = get_there before after l

set_there : (before after : List (List Row)) (l rest : List Row)
    → slice_set (before ++ l ∷ after) (length before) rest ≡ before ++ rest ∷ after
set_there [] after l rest = refl
set_there (m ∷ before) after l rest = ap (λ (ls : List (List Row)). m ∷ ls) (set_there before after l rest)

module _ (lt : Row → Row → Bool) where
  all_not_before : (row : Row) (before after : List (List Row)) (l : List Row) → AllByRecursion Empty before
      → AllByRecursion Empty after → NotBefore lt row l
      → AllByRecursion (NotBefore lt row) (before ++ l ∷ after)
  all_not_before row [] after l b a n = (n, others after a)
    where
      others : (ls : List (List Row)) → AllByRecursion Empty ls → AllByRecursion (NotBefore lt row) ls
      others [] h = tt
      others (m ∷ ls) h = (subst (NotBefore lt row) (sym h.0) tt, others ls h.1)
  all_not_before row (m ∷ before) after l b a n =
      (subst (NotBefore lt row) (sym b.0) tt, all_not_before row before after l b.1 a n)

  all_empty : (before after : List (List Row)) (l : List Row) → AllByRecursion Empty before
      → AllByRecursion Empty after → l ≡ [] → AllByRecursion Empty (before ++ l ∷ after)
  all_empty [] after l b a n = (n, a)
  all_empty (m ∷ before) after l b a n = (b.0, all_empty before after l b.1 a n)

  -- what is a merge of one list alone is one of it between empty ones
  merged_between : (out : List Row) (before after : List (List Row)) (l : List Row)
      → AllByRecursion Empty before → AllByRecursion Empty after → Merged lt (l ∷ []) out
      → Merged lt (before ++ l ∷ after) out
  merged_between [] before after l b a m = all_empty before after l b a m.0
  merged_between (row ∷ out) before after l b a (zero, rest, e, n, m) = (
    length before,
    rest,
    get_there before after l ∙ e,
    all_not_before row before after l b a n.0,
    subst (λ (ls : List (List Row)). Merged lt ls out) (sym (set_there before after l rest))
        (merged_between out before after rest b a m),
  )
  merged_between (row ∷ out) before after l b a (suc place, rest, e, n, m) = cc

-- ---- the lists of all shards, where one alone gives rows

zip_end : (P : ℕ → List Row → Type 0) (ss : List ℕ) (lists : List (List Row)) (s : ℕ) (l : List Row)
    → AllZip P ss lists → P s l → AllZip P (ss ++ s ∷ []) (lists ++ l ∷ [])
zip_end P [] [] s l h k = (k, tt)
zip_end P [] (m ∷ lists) s l h k = absurd h
zip_end P (t ∷ ss) [] s l h k = absurd h
zip_end P (t ∷ ss) (m ∷ lists) s l h k = (h.0, zip_end P ss lists s l h.1 k)

all_end : (lists : List (List Row)) → AllByRecursion Empty lists → AllByRecursion Empty (lists ++ [] ∷ [])
all_end [] h = (refl, tt)
all_end (m ∷ lists) h = (h.0, all_end lists h.1)

pub not_equal : (n m : ℕ) → (n ≡ m → ⊥) → (n == m) ≡ false
not_equal n m f = by (n == m) refl
  where
    by : (b : Bool) → (n == m) ≡ b → b ≡ false
    by true e = absurd (f (eqb-true n m e))
    by false e = refl

module _ (P : ℕ → List Row → Type 0) (shard : ℕ) (l : List Row) (given : P shard l)
    (none : (s : ℕ) → (s == shard) ≡ false → P s []) where
  no_rows : (n : ℕ) → n ≤ shard
      → (lists : List (List Row)) × AllZip P (numbers_below n) lists × AllByRecursion Empty lists
  no_rows zero h = ([], tt, tt)
  no_rows (suc n) h =
      let k = no_rows n (omega (arith, h)) in (
        k.0 ++ [] ∷ [],
        zip_end P (numbers_below n) k.0 n [] k.1 (none n (not_equal n shard (λ e. omega (arith, h, e)))),
        all_end k.0 k.2,
      )

  -- its list stands between empty ones
  one_list : (n : ℕ) → shard < n
      → (before : List (List Row)) × (after : List (List Row))
      × AllZip P (numbers_below n) (before ++ l ∷ after) × AllByRecursion Empty before
      × AllByRecursion Empty after
  one_list zero h = absurd (omega (arith, h))
  one_list (suc n) h = ⊎_elim
      (λ below.
      let k = one_list n below in (
        k.0,
        k.1 ++ [] ∷ [],
        subst (AllZip P (numbers_below (suc n))) (append_assoc k.0 (l ∷ k.1) ([] ∷ []))
            (zip_end P (numbers_below n) (k.0 ++ l ∷ k.1) n [] k.2
            (none n (not_equal n shard (λ e. omega (arith, below, e))))),
        k.3,
        all_end k.1 k.4,
      ))
      (λ there.
      let same : n ≡ shard = omega (arith, h, there) in
      let k = no_rows n (omega (arith, same)) in (
        k.0,
        [],
        zip_end P (numbers_below n) k.0 n l k.1 (subst (λ (s : ℕ). P s l) (sym same) given),
        k.2,
        tt,
      ))
      (cases_lt shard n)

-- ---- the law

-- q runs on one of the shards on which p runs, p gives there what q gives, and nothing on the others
pub record OnOneShard (facts : Facts) (shard shards : ℕ) (q p : Plan) : Type 0 where
  pub feeds : (db : Database) → Meets facts db → (start : Row) (taken : List Row)
      → Feeds q (dataset facts db) start taken → Feeds p (dataset facts db) start taken
  pub one : (db : Database) → targets q (dataset facts db) ≡ shard ∷ []
  pub all : (db : Database) → targets p (dataset facts db) ≡ numbers_below shards
  pub runs : (db : Database) → Meets facts db → (start : Row) (taken out : List Row)
      → Runs q (dataset facts db) (Inside shard (sent_to q (dataset facts db) shard taken)) start out
      → Runs p (dataset facts db) (Inside shard (sent_to p (dataset facts db) shard taken)) start out
  pub nothing : (db : Database) → Meets facts db → (start : Row) (taken : List Row) (s : ℕ)
      → (s == shard) ≡ false
      → Runs p (dataset facts db) (Inside s (sent_to p (dataset facts db) s taken)) start []

pub one_shard_at_gather : (facts : Facts) (us : Uses) (directions : List Bool) (keys : ExprTrees)
    (shard shards : ℕ) (q p : Plan) → shard < shards → OnOneShard facts shard shards q p
    → RefinesFor us facts (Over q (Gather directions keys)) (Over p (Gather directions keys))
one_shard_at_gather facts us directions keys shard shards q p below h db meets start out
    (taken, lists, fed, each, m) =
    let w = dataset facts db in
    alone lists (subst (λ (ss : List ℕ). AllZip
    (λ s rows. Runs q w (Inside s (sent_to q w s taken)) start rows) ss lists) (h.one db) each) m
  where
    alone : (ls : List (List Row))
        → AllZip (λ s rows. Runs q (dataset facts db)
        (Inside s (sent_to q (dataset facts db) s taken)) start rows) (shard ∷ []) ls
        → Merged (row_before directions keys) ls out
        → (other : List Row) × Runs (Over p (Gather directions keys)) (dataset facts db) Outside start other
        × AllZip (Agree us) out other
    alone [] g n = absurd g
    alone (l ∷ k ∷ ls) g n = absurd g.1
    alone (l ∷ []) g n =
        let w = dataset facts db in
        let k = one_list (λ s rows. Runs p w (Inside s (sent_to p w s taken)) start rows) shard l
        (h.runs db meets start taken l g.0) (λ s e. h.nothing db meets start taken s e) shards below in (
          out,
          (
            taken,
            k.0 ++ l ∷ k.1,
            h.feeds db meets start taken fed,
            subst (λ (ss : List ℕ). AllZip
                (λ s rows. Runs p w (Inside s (sent_to p w s taken)) start rows) ss
                (k.0 ++ l ∷ k.1)) (sym (h.all db)) k.2,
            merged_between (row_before directions keys) out k.0 k.1 l k.3 k.4 n,
          ),
          rows_agree us out,
        )
