use Rattle.std.proofs.Common.{rules, ◌≡◌, ◌≢◌, Some, drop, take, arith, ap, sym, ◌∙◌}
use Rattle.aql_io.proofs.Moved.{front_copied, none_after}
use Rattle.aql_io.proofs.memory.MemorySourceSource.read_some.Goals as goal

pub returns-clause-bytes : goal.returns-clause-bytes
returns-clause-bytes c =
    let inside = c.self.inside in
    let all = inside.bytes.items in
    let count = c.count-count.result in
    let left_is : drop inside.at all ≡ c.args.self.now.left = ap (λ v. v.left) c.self.view_is in
    let until_is : inside.until_fault ≡ c.args.self.now.until_fault =
    ap (λ v. v.until_fault) c.self.view_is in
    let copied : take count c.copy_front.new.into ≡ take count (drop inside.at all) =
    rw c.deref.ensures.value at c.copy_front.ensures.front in
    let goes_on : c.args.self.now.until_fault ≢ Some 0 =
    λ used_up. search (rules, c.is_used_up.ensures, c.if-is_used_up.false, until_is ∙ used_up) in
    record {
      bytes = sym left_is ∙ front_copied all c.copy_front.new.into inside.at count copied;
      ends = λ nothing room. none_after all inside.at count nothing
          (left_is ∙ c.count-count.ensures.ends nothing (omega (arith, c.copy_front.ensures.len)) goes_on);
    }
