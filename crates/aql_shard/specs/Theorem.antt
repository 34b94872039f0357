-- The law of this crate: what is known of a catalog, which keeps its limits, fits plans.
use Rattle.std.specs.Prelude.{ℕ, ◌≡◌, ◌≤◌, List, length}
use Rattle.std.specs.List.{AllZip, AllByRecursion}
use Rattle.aql_doc.specs.Held.{Held}
use Rattle.aql_doc.specs.Limits.{IsWithinLimits}
use Rattle.aql_plan.specs.declared.facts.CollFact.{CollFact}
use Rattle.aql_plan.specs.WellFormed.{CollectionFits}
use Rattle.aql_shard.specs.Known.{facts_of}

-- a collection and what is known of it have the same name and kind
abbrev pub SameNameAndKind : CollFact → Held → Type 0
SameNameAndKind c h = (c.name ≡ h.info.name) × (c.edge ≡ h.info.edge)

-- what is known fits plans; it is of the collections that are held, one for one, at most 64
abbrev pub FactsFit : Type 0
FactsFit = (servers : ℕ) (held : List Held) → IsWithinLimits held
    → AllByRecursion CollectionFits (facts_of servers held).collections
    × AllZip SameNameAndKind (facts_of servers held).collections held
    × (length (facts_of servers held).collections ≤ 64)
