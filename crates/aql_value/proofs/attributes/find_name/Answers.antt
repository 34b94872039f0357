use Rattle.std.specs.Ordering.{nat_cmp}
use Rattle.std.specs.Cmp.Lexicographic.{slice_cmp}
use Rattle.std.proofs.Common.{rules}
use Rattle.std.proofs.lemmas.Fn.{always_returns_same}
use Rattle.aql_value.specs.declared.values.Member.{Member}
use Rattle.aql_value.proofs.Places.{place}
use Rattle.aql_value.proofs.attributes.find_name.Goals as goal

pub returns : goal.returns
returns c =
    place c.args.name.now c.args.entries.now c.binary_search_by.result c.requires
    c.binary_search_by.ensures.bound
    (c.binary_search_by.ensures.position (λ (m : Member). slice_cmp nat_cmp m.name c.args.name.now)
    (always_returns_same _ _ _ (λ a r f' k. let e = k.met in search rules)))
