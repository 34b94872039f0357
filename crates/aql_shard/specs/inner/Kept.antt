-- What the indexes that are kept say of their documents; for private clauses.
use Rattle.std.specs.Prelude.{ℕ, ◌≤◌, ◌+◌, List, map, length}
use Rattle.std.specs.List.{zip}
use Rattle.aql_plan.specs.declared.facts.IndexFact.{IndexFact}
use Rattle.aql_plan.specs.Facts.{numbers_below}
use Rattle.aql_index.specs.Entries.{IndexView}
use Rattle.aql_index.specs.Groups.{widest_of}
use Rattle.aql_shard.specs.declared.shapes.Shape.{Shape}

-- an index has at most eight attributes
abbrev pub IsNarrow : Shape → Type 0
IsNarrow shape = length shape.attributes ≤ 8

-- the sizes of the largest groups, by numbers of attributes from none to so many
abbrev pub widths_in : ℕ → IndexView → List ℕ
widths_in attributes index =
    map (λ width. widest_of width index.entries) (numbers_below (attributes + 1))

abbrev pub fact_by : Shape → IndexView → IndexFact
fact_by shape index = record {
  kind = shape.kind;
  attributes = shape.attributes;
  widths = widths_in (length shape.attributes) index;
}

-- the same, each shape with the index at its place
abbrev pub facts_by : List Shape → List IndexView → List IndexFact
facts_by shapes indexes = map (λ (p : Shape × IndexView). fact_by p.0 p.1) (zip shapes indexes)
