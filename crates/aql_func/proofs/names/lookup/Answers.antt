use Rattle.std.proofs.Common.{rules, Ok, Err}
use Rattle.std.specs.Cmp.Lexicographic.{slice_cmp}
use Rattle.std.specs.Ordering.{nat_cmp}
use Rattle.std.specs.Str.{str_to_ascii_lowercase}
use Rattle.std.proofs.lemmas.Fn.{always_returns_same}
use Rattle.aql_func.proofs.Found.{key, searched}
use Rattle.aql_func.proofs.names.lookup.Goals as goal

pub returns-in-Ok : goal.returns-in-Ok
returns-in-Ok c =
    searched c.args.name.now (Ok c.in-Ok.place) c.in-Ok.ensures.bound
    (c.in-Ok.ensures.position (λ f. slice_cmp nat_cmp (key f) (str_to_ascii_lowercase c.args.name.now))
    (always_returns_same _ _ _ (λ a r g called. (search rules, search rules)))) _

pub returns-in-Err : goal.returns-in-Err
returns-in-Err c =
    searched c.args.name.now (Err c.in-Err.field-0) c.in-Err.ensures.bound
    (c.in-Err.ensures.position (λ f. slice_cmp nat_cmp (key f) (str_to_ascii_lowercase c.args.name.now))
    (always_returns_same _ _ _ (λ a r g called. (search rules, search rules))))
