use Rattle.std.proofs.Common.{inr, refl, sym, ◌∙◌}
use Rattle.std.proofs.lemmas.Bool.{false≢true}
use Rattle.aql_value.proofs.JsonLines.{value_is, fault_is, deep_is, none_is}
use Rattle.aql_value.proofs.reading.from_json_line.Goals as goal

pub returns-then-nests_within-clause-value : goal.returns-then-nests_within-clause-value
returns-then-nests_within-clause-value c =
    value_is _ _ c.value_of.result c.in-Ok.ensures.ok.0 c.in-Ok.ensures.ok.1
    (c.if-nests_within.ensures.0 refl)
    c.value_of.ensures

pub returns-then-nests_within-clause-fault : goal.returns-then-nests_within-clause-fault
returns-then-nests_within-clause-fault c =
    fault_is _ _ c.value_of.result c.in-Ok.ensures.ok.0 c.in-Ok.ensures.ok.1
    (c.if-nests_within.ensures.0 refl)
    c.value_of.ensures

pub returns-else-nests_within-clause-fault : goal.returns-else-nests_within-clause-fault
returns-else-nests_within-clause-fault c =
    inr (deep_is _ _ c.in-Ok.ensures.ok.0 c.in-Ok.ensures.ok.1
    (λ h. false≢true (c.if-nests_within.ensures.1 h)))

pub returns-else-is_memory-clause-fault : goal.returns-else-is_memory-clause-fault
returns-else-is_memory-clause-fault c =
    inr (none_is _
    (c.in-Err.ensures.err (λ m. false≢true (sym c.if-is_memory.false ∙ c.is_memory.ensures.1 m))))
