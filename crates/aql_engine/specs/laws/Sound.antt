-- What the operators of a plan give is what the plan gives.
use Rattle.std.proofs.Common.{◌≡◌, ◌∙◌, ℕ, List, [], ◌∷◌, map, length, refl, sym, subst}
use Rattle.std.specs.Prelude.{Option, Some, None, slice_index_or}
use Rattle.std.specs.List.{AllZip}
use Rattle.aql_value.specs.Contents.{list}
use Rattle.aql_tree.specs.declared.syntax.Ident.{Ident}
use Rattle.aql_meaning.specs.Row.{Row, bind}
use Rattle.aql_meaning.specs.AtRows.{row_before}
use Rattle.aql_meaning.specs.Merges.{Merged}
use Rattle.aql_plan.specs.Plan.{Plan, Singleton, Over, Subquery, NoResults, Scatter, Distribute, Remote, Gather}
use Rattle.aql_plan.specs.Runs.{Dataset, Outside, Inside, result_of, sent_to, came, Runs, Feeds}
use Rattle.aql_exec.specs.Rests.{Counts, Rest}
use Rattle.aql_exec.specs.Operators as operator
use Rattle.aql_exec.specs.Operators.{leaf, one_row, EachRow, Makes, ProducesOver, Produces}
use Rattle.aql_engine.specs.OperatorsOf.{foot, shards_of, came_at, operators_at, operators_below, operators_of}
use Rattle.aql_engine.specs.laws.Merging.{first_lists, merged_first_lists}
use Rattle.aql_engine.specs.laws.Given.{place_at, given}
use Rattle.aql_engine.specs.laws.Looked.{looked_runs}
use Rattle.aql_engine.specs.laws.Fragmented.{shards_are, rows_are, each_list}

-- a subquery's row is one with a list of its body
each_given : (body : Row → Rest → Type 0) (R : Row → List Row → Type 0)
    → ((row : Row) (r : Rest) → body row r → R row r.rows)
    → (x : Ident) (rows outs : List Row) (d : Counts) → EachRow body x rows outs d
    → AllZip (λ row given. (results : List Row) × R row results
    × (given ≡ bind x row (list (map result_of results)))) rows outs
each_given body R f x [] outs d h = subst
    (λ (zs : List Row). AllZip (λ row given. (results : List Row) × R row results
    × (given ≡ bind x row (list (map result_of results)))) [] zs) (sym h.0) tt
each_given body R f x (row ∷ rows) outs d h = subst
    (λ (zs : List Row). AllZip (λ row given. (results : List Row) × R row results
    × (given ≡ bind x row (list (map result_of results)))) (row ∷ rows) zs) (sym h.5)
    ((h.0.rows, f row h.0 h.3, refl), each_given body R f x rows h.1 h.2 h.4)

-- the rows that came to a place are those that came to its tree
came_there : (w : Dataset) (at : Option ℕ) (rows : List Row) (row : Row) (r : Rest)
    → ProducesOver (leaf (came_at at)) w rows row r → r.rows ≡ came (place_at at rows)
came_there w None rows row r h = h.0
came_there w (Some shard) rows row r h = h.0

mutual
  -- outside fragments, or in one on a shard with the rows that came there
  pub gives_runs : (w : Dataset) (p : Plan) (at : Option ℕ) (rows : List Row) (row : Row) (r : Rest)
      → ProducesOver (operators_at w.facts at p) w rows row r → Runs p w (place_at at rows) row r.rows
  gives_runs w Singleton at rows row r h = h.0
  gives_runs w (Over b NoResults) at rows row r h = h.0
  gives_runs w (Over b (Subquery x body)) at rows row r h = (
    (h.0 0).rows,
    gives_runs w b at rows row (h.0 0) h.1,
    each_given (ProducesOver (operators_at w.facts None body) w []) (λ q out. Runs body w Outside q out)
        (λ q s k. gives_runs w body None [] q s k) x (h.0 0).rows r.rows h.2.0 h.2.1,
  )
  gives_runs w (Over b (Scatter coll only)) at rows row r h = came_there w at rows row r h
  gives_runs w (Over b (Distribute coll es)) at rows row r h = came_there w at rows row r h
  gives_runs w (Over b Remote) at rows row r h =
      ((h.0 0).rows, gives_runs w b at rows row (h.0 0) h.1, h.2.0)
  gives_runs w (Over b (Gather directions es)) at rows row r h =
      let shards = shards_of w.facts b in
      let lists : ℕ → List Row = λ k. (h.2.0 k).rows in (
        (h.0 0).rows,
        first_lists (length shards) lists,
        gives_feed w b rows row (h.0 0) h.1,
        subst (λ (ss : List ℕ). AllZip (λ shard out. Runs b w (Inside shard (sent_to b w shard (h.0 0).rows))
            row out) ss (first_lists (length shards) lists)) (shards_are w b)
            (each_list w row (λ shard. operators_at w.facts (Some shard) b)
            (λ shard. sent_to b w shard (h.0 0).rows)
            (λ shard out. Runs b w (Inside shard (sent_to b w shard (h.0 0).rows)) row out)
            (λ shard came s e k. subst (λ (there : List Row). Runs b w (Inside shard there) row s.rows) e
            (gives_runs w b (Some shard) came row s k))
            shards (λ k part. Makes (operator.Scatter (foot b) shards) w [] row k one_row h.0 part) h.2.0
            (λ k part a l. a.0 l ∙ rows_are w b (slice_index_or shards k 0) (h.0 0).rows) h.2.3),
        subst (λ (out : List Row). Merged (row_before directions es) (first_lists (length shards) lists) out)
            (sym h.2.6)
            (merged_first_lists (row_before directions es) (length shards) lists h.2.1.rows h.2.5.0),
      )
  gives_runs w (Over b n) at rows row r h =
      let k = looked_runs w rows row at n (operators_at w.facts at b) r h in (
        (k.0 0).rows,
        gives_runs w b at rows row (k.0 0) k.1,
        given w rows row (k.0 0).rows r.rows k.2.0 at n k.2.1,
      )

  -- the list that the foot of a fragment takes
  gives_feed : (w : Dataset) (p : Plan) (rows : List Row) (row : Row) (r : Rest)
      → ProducesOver (operators_below w.facts p) w rows row r → Feeds p w row r.rows
  gives_feed w Singleton rows row r h = h.0
  gives_feed w (Over b (Scatter coll only)) rows row r h = gives_runs w b None rows row r h
  gives_feed w (Over b (Distribute coll es)) rows row r h = gives_runs w b None rows row r h
  gives_feed w (Over b n) rows row r h = gives_feed w b rows row r h

-- what the operators of a plan produce from a row, the plan gives
pub produces_runs : (w : Dataset) (p : Plan) (row : Row) (r : Rest)
    → Produces (operators_of w.facts p) w row r → Runs p w Outside row r.rows
produces_runs w p row r h = gives_runs w p None [] row r h
