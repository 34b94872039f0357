use Rattle.std.proofs.Common.{◌≡◌, ◌∙◌, ◌∷◌, ℕ, List, length, ap, arith}
use Rattle.aql_block.specs.Tables.{Table}
use Rattle.aql_block.proofs.Filled.{filled_made}
use Rattle.aql_block.proofs.Tabled.{new_table}
use Rattle.aql_block.proofs.blocks.Block.with_register.Goals as goal

pub invariant_of-result : goal.invariant_of-result
invariant_of-result c =
    let v = c.insert.new.self in
    let e : c.len.result ≡ length v.items = omega (arith, c.len.ensures, v.ok.0) in
    filled_made v.items c.len.result c.args.room c.in_ok-columns.columns.items c.in_ok-columns.ensures e

pub returns : goal.returns
returns c =
    new_table c.insert.new.self.items (c.args.var ∷ c.args.self.now.registers) c.args.room
    c.in_ok-columns.columns.items
    (c.in_ok-insert.ensures.items
    ∙ ap (λ (xs : List ℕ). c.args.var ∷ xs)
    (c.in_ok-registers.ensures ∙ c.deref.ensures.value ∙ ap (λ (t : Table). t.registers) c.self.view_is))
