-- Rows for shards: what came, what was given at a port, and what is left.
use Rattle.aql_value.specs.Shards.{shard_of}
use Rattle.aql_meaning.specs.AtRows.{keys_of}
use Rattle.aql_plan.specs.Facts.{shards_in}
use Rattle.aql_plan.specs.Runs.{Dataset}
use Rattle.aql_plan.specs.View.{expr_trees}
use Rattle.aql_exec.specs.Operators.{rows_for, ReachesAll}
use Rattle.aql_exec_cluster.specs.declared.routing.Routing.{Routing}
use Rattle.aql_exec_cluster.specs.declared.routing.Routing.TheVariants.{ToAll, ByKeys}
use Rattle.aql_exec_cluster.specs.declared.routing.Target.{Target}
use Rattle.aql_exec_cluster.specs.Routings.{node_by, comes_to, rows_to, is_to_all}
use Rattle.std.proofs.Common.{◌≡◌, ℕ, zero, suc, ◌+◌, ◌*◌, ◌<◌, ◌≤◌, ◌⊎◌, ◌++◌, inl, inr, List, [], ◌∷◌, length, replicate, slice_index_or, append_assoc, true, false, Option, Some, None, true≢false, refl, sym, ap, ◌∙◌, subst, arith}
use Rattle.std.specs.Prelude.{slice_set, filter, is_some, ◌==◌}
use Rattle.std.proofs.Math.Nat.{mul-le-mul_left}
use Rattle.std.proofs.lemmas.Bool.{cases_eq}
use Rattle.std.proofs.lemmas.List.{append-nil, get_or_read, get_or-set_same, get_or-set_other}
use Rattle.std.proofs.lemmas.List.Elements.{filter-append}
use Rattle.std.proofs.lemmas.List.Sums.{sum_by-set}
use Rattle.std.proofs.lemmas.List.Folds.{sum_by-replicate}
use mathlib.Core.Bool.{false≢true}
use Rattle.aql_meaning.specs.Row.{Row}
use Rattle.aql_block.specs.Tables.{Table, rows_of}
use Rattle.aql_block.specs.declared.calls.Step.{Step}
use Rattle.aql_exec.specs.Rests.{Counter, Counts, Exact, Rest, Prefixed, IsOver, with_rows}
use Rattle.aql_exec.specs.Counting.{nothing}
use Rattle.aql_exec.specs.Steps.{given, Continues}
use Rattle.aql_engine.specs.Run.{rows_in}
use Rattle.aql_exec_cluster.specs.declared.blocks.Place.{Place}
use Rattle.aql_exec_cluster.specs.declared.scatter.Filled.{Filled}
use Rattle.aql_exec_cluster.specs.Shared.{rows_at}
use Rattle.aql_exec_cluster.specs.Ports.{rows_after, rows_at_port, count_ports}
use Rattle.aql_exec_cluster.specs.Scattering.{is_filled, port_rows, gives_scatter, budget_scatter}
use Rattle.aql_exec_cluster.specs.laws.Taking.{same_inputs}
use Rattle.aql_exec_cluster.proofs.Sharing.{at_start}

-- ---- ports

port_or_last : (p n : ℕ) → p < suc n → (p < n) ⊎ (p ≡ n)
port_or_last p n l = by (cases_eq p n)
  where
    by : (p ≡ n) ⊎ (p ≡ n → ⊥) → (p < n) ⊎ (p ≡ n)
    by (inl e) = inr e
    by (inr d) = inl (omega (arith, l, d))

pub is_port : (p n : ℕ) → (p ≡ 0) ⊎ (p < suc n) → (p < n) ⊎ (p ≡ n)
is_port p n (inl e) = port_or_last p n (omega (arith, e))
is_port p n (inr l) = port_or_last p n l

no_both : {p n : ℕ} → p < n → p ≡ n → ⊥
no_both l e = absurd (omega (arith, l, e))

-- ---- rows that come to a shard

-- of rows with others after them, where these of the first ones come there
sent_then : (routing : Routing) (target : Target) (all front rest more : List Row)
    → rows_to routing target all ≡ front ++ rows_to routing target rest
    → rows_to routing target (all ++ more) ≡ front ++ rows_to routing target (rest ++ more)
sent_then routing target all front rest more e =
    filter-append (comes_to routing target) all more
    ∙ ap (λ z. z ++ rows_to routing target more) e
    ∙ append_assoc front (rows_to routing target rest) (rows_to routing target more)
    ∙ ap (λ z. front ++ z) (sym (filter-append (comes_to routing target) rest more))

pub all_come : (only : Option ℕ) (target : Target) (rows : List Row) → rows_to (ToAll only) target rows ≡ rows
all_come only target [] = refl
all_come only target (row ∷ rows) = ap (λ z. row ∷ z) (all_come only target rows)

-- they are those that the node sends there, where it reaches all shards
routed : (coll : ℕ) (routing : Routing) (w : Dataset) (shards : List ℕ) (target : Target) (shard : ℕ)
    → ReachesAll w.facts (node_by coll routing) shards → target.shard ≡ shard
    → target.shards ≡ length shards → (rows : List Row)
    → rows_for (node_by coll routing) w shard rows ≡ rows_to routing target rows
routed coll (ToAll only) w shards target shard reaches at of rows = sym (all_come only target rows)
routed coll (ByKeys keys) w shards target shard reaches at of rows =
    let count : shards_in w.facts coll ≡ target.shards = sym reaches ∙ sym of in
    ap (λ k. filter (λ row. shard_of k (keys_of (expr_trees keys) row) == shard) rows) count
    ∙ ap (λ k. filter (λ row. shard_of target.shards (keys_of (expr_trees keys) row) == k) rows) (sym at)

-- ---- rows that came

-- before all came, nothing was given at any port
pub kept_more : (kept kept' : List Table) (o : Option Filled) (rows : List Row) → is_filled o ≡ false
    → rows_in kept' ≡ rows_in kept ++ rows → (p : ℕ) → port_rows kept' o p ≡ port_rows kept o p ++ rows
kept_more kept kept' None rows f e p = e
kept_more kept kept' (Some filled) rows f e p = absurd (false≢true (sym f))

pub filled_more : (kept kept' : List Table) (o : Option Filled) (filled : Filled) (rows : List Row)
    → is_filled o ≡ false
    → ((p : ℕ) → rows_at_port filled.blocks.value filled.places.items p ≡ rows_in kept ++ rows)
    → (p : ℕ) → port_rows kept' (Some filled) p ≡ port_rows kept o p ++ rows
filled_more kept kept' None filled rows f e p = e p
filled_more kept kept' (Some other) filled rows f e p = absurd (false≢true (sym f))

-- once all came, a port goes on by itself
pub filled_gave : (kept : List Table) (o : Option Filled) (f f' : Filled) (p : ℕ) (front : List Row)
    (routing : Routing) (target : Target) → o ≡ Some f → f'.blocks.value ≡ f.blocks.value
    → rows_to routing target (rows_at_port f.blocks.value f.places.items p)
    ≡ front ++ rows_to routing target (rows_at_port f.blocks.value f'.places.items p)
    → rows_to routing target (port_rows kept o p)
    ≡ front ++ rows_to routing target (port_rows kept (Some f') p)
filled_gave kept o f f' p front routing target e b h =
    ap (λ z. rows_to routing target (port_rows kept z p)) e ∙ h
    ∙ ap (λ (z : List Table). front ++ rows_to routing target (rows_at_port z f'.places.items p)) (sym b)

pub filled_other : (kept : List Table) (o : Option Filled) (f f' : Filled) (p : ℕ) → o ≡ Some f
    → f'.blocks.value ≡ f.blocks.value
    → rows_at_port f.blocks.value f'.places.items p ≡ rows_at_port f.blocks.value f.places.items p
    → port_rows kept (Some f') p ≡ port_rows kept o p
filled_other kept o f f' p e b h =
    ap (λ (z : List Table). rows_at_port z f'.places.items p) b ∙ h ∙ sym (ap (λ z. port_rows kept z p) e)

module _ (coll : ℕ) (routing : Routing) (w : Dataset) (shards : List ℕ) where
  abbrev Gives : (ℕ → List Row) → ℕ → (ℕ → Rest) → Rest → Type 0
  Gives left p ins r = gives_scatter (node_by coll routing) w shards left p ins r

  -- the rows that come to the shard at a port
  abbrev to_port : ℕ → List Row → List Row
  to_port p rows = rows_for (node_by coll routing) w (slice_index_or shards p 0) rows

  -- a step that was taken
  pub scattered : {e : Exact} (p : ℕ) (left left' : ℕ → List Row) (rows : List Row) (d : Counts)
      (ins' ins : ℕ → Rest) (r : Rest) → ((q : ℕ) → left' q ≡ left q ++ rows)
      → Prefixed e rows d (ins' 0) (ins 0) → Gives left' p ins' r
      → (q : Rest) × Prefixed e [] d r q × Gives left p ins q
  scattered p left left' rows d ins' ins r more h g = (
    record { rows = r.rows; counts = (ins 0).counts },
    record {
      rows = refl;
      counts = λ c. (let m = h.counts c in let x = g.2 c in omega (arith, m, x));
      exact = λ c i. (let m = h.exact c i in let x = g.2 c in omega (arith, m, x));
    },
    (
      (λ l. g.0 l ∙ ap (to_port p) (ap (λ z. z ++ (ins' 0).rows) (more p)
          ∙ append_assoc (left p) rows (ins' 0).rows ∙ ap (λ z. left p ++ z) (sym h.rows))),
      g.1,
      λ c. refl,
    ),
  )

  -- ---- rows that were given

  -- at this port, which is that of a shard
  pub gave_port : {e : Exact} (port : ℕ) (left left' : ℕ → List Row) (skipped : List Row)
      (s : ℕ → List Row) (ins' ins : ℕ → Rest) (step : Step) (target : Target)
      → ReachesAll w.facts (node_by coll routing) shards
      → target.shard ≡ slice_index_or shards port 0 → target.shards ≡ length shards
      → ((j : ℕ) → length (s j) ≡ 0) → ((j : ℕ) → ins' j ≡ with_rows (s j) (ins j))
      → port < length shards → length skipped ≡ step.skipped
      → rows_to routing target (left port) ≡ (skipped ++ given step) ++ rows_to routing target (left' port)
      → Continues e (Gives left port ins') nothing step (Gives left' port ins)
  gave_port port left left' skipped s ins' ins step target reaches at of l eqs within len rows r h =
      let same = same_inputs s ins ins' l eqs in
      let counts : (c : Counter) → r.counts c ≡ (ins' 0).counts c =
      λ c. h.2 c ∙ ap (λ (z : ℕ → Rest). (z 0).counts c) (sym same) in
      let sent = λ (all : List Row). routed coll routing w shards target (slice_index_or shards port 0) reaches
      at of all in (
        skipped,
        record { rows = to_port port (left port ++ (ins' 0).rows); counts = r.counts },
        len,
        record {
          rows = ap (λ (z : ℕ → Rest). to_port port (left port ++ (z 0).rows)) same
              ∙ sent (left port ++ (ins 0).rows)
              ∙ sent_then routing target (left port) (skipped ++ given step) (left' port) (ins 0).rows rows
              ∙ ap (λ z. (skipped ++ given step) ++ z)
              (sym (sent (left' port ++ (ins 0).rows)) ∙ sym (h.0 within));
          counts = λ c. omega arith;
          exact = λ c i. omega arith;
        },
        ((λ i. refl), (λ i. absurd (no_both within i)), counts),
      )

  -- elsewhere
  pub other_port : (p : ℕ) (left left' : ℕ → List Row) (s : ℕ → List Row) (ins' ins : ℕ → Rest) (r : Rest)
      → ((j : ℕ) → length (s j) ≡ 0) → ((j : ℕ) → ins' j ≡ with_rows (s j) (ins j)) → left' p ≡ left p
      → Gives left' p ins r → Gives left p ins' r
  other_port p left left' s ins' ins r l eqs e h =
      let same = same_inputs s ins ins' l eqs in (
        (λ i. h.0 i ∙ ap (to_port p) (ap (λ z. z ++ (ins 0).rows) e
            ∙ ap (λ (z : ℕ → Rest). left p ++ (z 0).rows) (sym same))),
        h.1,
        λ c. h.2 c ∙ ap (λ (z : ℕ → Rest). (z 0).counts c) (sym same),
      )

  -- no row is left at the port of a shard, and none comes
  pub over_port : {e : Exact} (p : ℕ) (left : ℕ → List Row) (ins : ℕ → Rest) (r : Rest) (target : Target)
      → ReachesAll w.facts (node_by coll routing) shards
      → target.shard ≡ slice_index_or shards p 0 → target.shards ≡ length shards
      → p < length shards → rows_to routing target (left p) ≡ [] → IsOver e (ins 0) → Gives left p ins r
      → IsOver e r
  over_port p left ins r target reaches at of l none over h = (
    h.0 l ∙ ap (λ z. to_port p (left p ++ z)) over.0 ∙ ap (to_port p) (append-nil (left p))
        ∙ routed coll routing w shards target (slice_index_or shards p 0) reaches at of (left p) ∙ none,
    λ c x. h.2 c ∙ over.1 c x,
  )

  -- nor at the one at which it is filled
  pub over_last : {e : Exact} (p : ℕ) (left : ℕ → List Row) (ins : ℕ → Rest) (r : Rest) → p ≡ length shards
      → IsOver e (ins 0) → Gives left p ins r → IsOver e r
  over_last p left ins r i over h = (h.1 i, λ c x. h.2 c ∙ over.1 c x)

  -- the part of a shard, once no more rows come
  pub part_is : (v : Dataset) (p : ℕ) (left : ℕ → List Row) (ins : ℕ → Rest) (rows : List Row)
      (target : Target) → v ≡ w → ReachesAll v.facts (node_by coll routing) shards
      → target.shard ≡ slice_index_or shards p 0 → target.shards ≡ length shards
      → p < length shards → (ins 0).rows ≡ [] → rows ≡ rows_to routing target (left p)
      → (r : Rest) × (r.rows ≡ rows) × Gives left p ins r
  part_is v p left ins rows target same reaches at of l none e =
      let there = subst (λ (z : Dataset). ReachesAll z.facts (node_by coll routing) shards) same reaches in (
        record { rows = rows; counts = (ins 0).counts },
        refl,
        (
          (λ i. e ∙ sym (routed coll routing w shards target (slice_index_or shards p 0) there at of (left p))
              ∙ ap (to_port p) (sym (append-nil (left p)) ∙ ap (λ z. left p ++ z) (sym none))),
          (λ i. absurd (no_both l i)),
          λ c. refl,
        ),
      )

-- ---- places

pub place_at_start : (blocks : List Table) (place : Place) → (place.block ≡ 0) × (place.row ≡ 0)
    → rows_at blocks place ≡ rows_in blocks
place_at_start blocks place e = at_start blocks blocks place.block place.row refl e.0 e.1

none_there : (n p : ℕ) → ◌≡◌ {A = Option Place} (slice_index_or (replicate n None) p None) None
none_there zero zero = refl
none_there zero (suc p) = refl
none_there (suc n) zero = refl
none_there (suc n) (suc p) = none_there n p

pub all_start : (blocks : List Table) (places : List (Option Place)) (n p : ℕ) → places ≡ replicate n None
    → rows_at_port blocks places p ≡ rows_in blocks
all_start blocks places n p e =
    ap (λ z. rows_at_port blocks z p) e ∙ ap (rows_after blocks) (none_there n p)

pub start_count : (blocks : List Table) (places : List (Option Place)) (n : ℕ) → places ≡ replicate n None
    → count_ports blocks places ≡ n * length (rows_in blocks)
start_count blocks places n e =
    ap (count_ports blocks) e ∙ sum_by-replicate (λ (z : Option Place). length (rows_after blocks z)) n None

pub place_read : (blocks : List Table) (places : List (Option Place)) (p : ℕ) (place : Option Place)
    → p < length places → place ≡ slice_index_or places p place
    → rows_at_port blocks places p ≡ rows_after blocks place
place_read blocks places p place l e = ap (rows_after blocks) (sym (get_or_read places p place l e None))

-- all rows, where none was given at a port and all come there
pub whole_rest : (blocks : List Table) (places : List (Option Place)) (p : ℕ) (place : Option Place)
    (routing : Routing) (target : Target) → p < length places → place ≡ slice_index_or places p place
    → is_some place ≡ false → is_to_all routing ≡ true
    → rows_to routing target (rows_at_port blocks places p) ≡ rows_in blocks
whole_rest blocks places p (Some place) routing target l e none all = absurd (true≢false none)
whole_rest blocks places p None (ByKeys keys) target l e none all = absurd (false≢true all)
whole_rest blocks places p None (ToAll only) target l e none all =
    all_come only target (rows_at_port blocks places p) ∙ place_read blocks places p None l e

pub place_there : (blocks : List Table) (places : List (Option Place)) (p : ℕ) (place : Option Place)
    → p < length places → rows_at_port blocks (slice_set places p place) p ≡ rows_after blocks place
place_there blocks places p place l = ap (rows_after blocks) (get_or-set_same places p place None l)

pub place_elsewhere : (blocks : List Table) (places : List (Option Place)) (p q : ℕ) (place : Option Place)
    → (q ≡ p → ⊥) → rows_at_port blocks (slice_set places p place) q ≡ rows_at_port blocks places q
place_elsewhere blocks places p q place d = ap (rows_after blocks) (get_or-set_other places p q place None d)

-- so many rows were told of at a port
pub fewer_at_port : (blocks : List Table) (places : List (Option Place)) (p told : ℕ)
    (place : Option Place) → p < length places
    → length (rows_after blocks place) + told ≤ length (rows_at_port blocks places p)
    → count_ports blocks (slice_set places p place) + told ≤ count_ports blocks places
fewer_at_port blocks places p told place l h =
    let s = sum_by-set (λ (z : Option Place). length (rows_after blocks z)) places p place None l in
    omega (arith, s, h)

-- the rows of a list of blocks, with one more
pub rows_push : (blocks : List Table) (b : Table) → rows_in (blocks ++ b ∷ []) ≡ rows_in blocks ++ rows_of b
rows_push [] b = append-nil (rows_of b)
rows_push (x ∷ xs) b =
    ap (λ z. rows_of x ++ z) (rows_push xs b) ∙ sym (append_assoc (rows_of x) (rows_in xs) (rows_of b))

-- ---- a run ends

-- a block that came counts for each port, and once more
pub budget_of_kept : (n : ℕ) (kept kept' : List Table) (o : Option Filled) (rows reported u : ℕ)
    → is_filled o ≡ false → length (rows_in kept') ≡ length (rows_in kept) + rows → rows ≤ reported
    → u ≤ reported → budget_scatter n kept' o + u ≤ budget_scatter n kept o + (n + 1) * reported
budget_of_kept n kept kept' None rows reported u f e l m =
    let a = mul-le-mul_left n l in rw e (omega (arith, a, m))
budget_of_kept n kept kept' (Some filled) rows reported u f e l m = absurd (false≢true (sym f))

pub budget_of_filled : (n ports : ℕ) (kept : List Table) (o : Option Filled) (count all rows reported : ℕ)
    → is_filled o ≡ false → all ≡ length (rows_in kept) + rows → rows ≤ reported → ports ≡ n
    → count ≡ ports * all → count + 1 ≤ budget_scatter n kept o + (n + 1) * reported
budget_of_filled n ports kept None count all rows reported f e l p c =
    let a = mul-le-mul_left n l in rw (c, p, e) (omega (arith, a))
budget_of_filled n ports kept (Some filled) count all rows reported f e l p c = absurd (false≢true (sym f))
