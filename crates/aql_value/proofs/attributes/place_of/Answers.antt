use Rattle.std.proofs.Common.{◌-◌, ◌∙◌, length, sym, ap, subst, arith, is_lt, refl}
use Rattle.std.proofs.lemmas.Option.{get_or_from_slice_get, slice_get_within}
use Rattle.std.specs.Ordering.{nat_cmp}
use Rattle.std.specs.Cmp.Lexicographic.{slice_cmp}
use Rattle.aql_value.specs.Order.{BytesBelow}
use Rattle.aql_value.specs.declared.values.Member.{Member}
use Rattle.aql_value.proofs.Places.{behind, less_bytes}
use Rattle.aql_value.proofs.attributes.place_of.Goals as goal

pub returns-in-Some : goal.returns-in-Some
returns-in-Some c =
    let es = c.args.entries.now in
    let last = c.in-Some.last.now in
    let found = sym c.in-Some.ensures.value in
    let within = slice_get_within es (length es - 1) last found in
    let less = less_bytes last.name c.args.name.now _ refl
    (ap (λ x. is_lt (slice_cmp nat_cmp x c.args.name.now)) (sym c.as_str.ensures)
    ∙ sym (ap is_lt c.cmp.ensures) ∙ sym c.is_lt.ensures ∙ c.if-is_lt.true) in
    behind c.args.name.now es last c.requires (omega (arith, within))
    (subst (λ (m : Member). BytesBelow m.name c.args.name.now)
    (sym (get_or_from_slice_get es (length es - 1) last last found)) less)
