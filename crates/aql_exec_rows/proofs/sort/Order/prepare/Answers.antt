use Rattle.std.proofs.Common.{◌≡◌, ◌∙◌, ◌++◌, length, map, true, ap, sym, subst, arith}
use Rattle.std.proofs.lemmas.List.{length-map, length-reverse}
use Rattle.std.proofs.lemmas.List.Sorted.{All-permutation, IsPermutation-map}
use mathlib.Core.Bool.{false≢true}
use Rattle.aql_meaning.specs.Clauses.{KeyedRow}
use Rattle.aql_plan.specs.View.{directions, key_trees}
use Rattle.aql_block.specs.Tables.{rows_of}
use Rattle.aql_exec_rows.specs.declared.sort.Order.{Order}
use Rattle.aql_exec_rows.specs.Keys.{with_keys, keyed_of, keyed_in}
use Rattle.aql_exec_rows.specs.Sorting.{LeavesRows, FirstInOrder, coming, HasExactly, AreFew}
use Rattle.aql_exec_rows.proofs.Keyings.{map_reverse}
use Rattle.aql_exec_rows.proofs.Ordered.{all_leave, first_leave, kept_have, kept_few, kept_fewer, added_length}
use Rattle.aql_exec_rows.proofs.sort.Order.prepare.Goals as goal

pub returns-then-self-2-clause-is : goal.returns-then-self-2-clause-is
returns-then-self-2-clause-is c =
    let absorbed = c.absorb.new.self in
    let a = c.in_ok-absorb.ensures in
    let kept = c.in_ok-keep_first.ensures in
    let held = keyed_in absorbed.rows.items in
    let first = keyed_in c.keep_first.new.held.items in
    record {
      alike = λ u. All-permutation (λ (k : KeyedRow). HasExactly absorbed.registers.items k.1) first
          (keyed_in c.reverse.new.self.items)
          (IsPermutation-map keyed_of _ _ c.reverse.ensures.permutation)
          (kept_have absorbed.limit held kept.0 first kept.1 kept.3 absorbed.registers.items
          (a.alike c.requires.is.alike u));
      sorted = λ _. (c.if-self-2.true, a.block);
      few = subst (AreFew absorbed.limit)
          (length-map c.keep_first.new.held.items keyed_of
          ∙ sym (ap length c.reverse.ensures.items ∙ length-reverse c.keep_first.new.held.items))
          (kept_few absorbed.limit held kept.0 first kept.1 kept.3);
    }

pub returns-then-self-2-clause-held : goal.returns-then-self-2-clause-held
returns-then-self-2-clause-held c =
    let a = c.in_ok-absorb.ensures in
    let kept = c.in_ok-keep_first.ensures in
    let held = keyed_in c.absorb.new.self.rows.items in
    let first = keyed_in c.keep_first.new.held.items in
    let m = kept_fewer c.absorb.new.self.limit held kept.0 first kept.1 kept.3 in
    let n = length-map c.keep_first.new.held.items keyed_of in
    let k = added_length (key_trees c.args.self.now.keys) (keyed_in c.args.self.now.rows.items) held
    (rows_of c.args.self.now.block) a.rows in
    let l = length-map c.args.self.now.rows.items keyed_of in
    let r = ap length c.reverse.ensures.items ∙ length-reverse c.keep_first.new.held.items in
    omega (arith, m, n, k, l, r)

pub returns-then-self-2-clause-left : goal.returns-then-self-2-clause-left
returns-then-self-2-clause-left c rows r h =
    let me = c.args.self.now in
    let a = c.in_ok-absorb.ensures in
    let kept = rw (c.as_slice.ensures, a.keys, a.limit) at c.in_ok-keep_first.ensures in
    let es = key_trees me.keys in
    let held = keyed_in me.rows.items in
    let closed : true ≡ me.closed = sym c.if-self-2.true ∙ a.closed in
    let after = ap keyed_in c.reverse.ensures.items ∙ map_reverse keyed_of c.keep_first.new.held.items in
    let first = all_leave (directions me.keys) me.limit es held (keyed_in c.absorb.new.self.rows.items) kept.0
    (keyed_in c.keep_first.new.held.items) (keyed_in c.reverse.new.self.items) (rows_of me.block) r.rows
    a.rows kept.1 kept.2 kept.3 after h.0 in
    let all = subst (λ b. FirstInOrder (directions me.keys) me.limit
    (held ++ map (with_keys es) (rows_of me.block ++ coming b rows)) r.rows) closed first in
    (subst (λ b. LeavesRows b me rows r.rows) (sym c.if-self.false) all, h.1)

pub returns-in_ok-keep_first-2-clause-is : goal.returns-in_ok-keep_first-2-clause-is
returns-in_ok-keep_first-2-clause-is c =
    let absorbed = c.absorb.new.self in
    let a = c.in_ok-absorb.ensures in
    let kept = c.in_ok-keep_first-2.ensures in
    let held = keyed_in absorbed.rows.items in
    let first = keyed_in c.keep_first-then-are_many.new.held.items in
    record {
      alike = λ u. kept_have absorbed.limit held kept.0 first kept.1 kept.3 absorbed.registers.items
          (a.alike c.requires.is.alike u);
      sorted = λ s. absurd (false≢true (sym (a.sorted ∙ c.if-self.false) ∙ s));
      few = subst (AreFew absorbed.limit) (length-map c.keep_first-then-are_many.new.held.items keyed_of)
          (kept_few absorbed.limit held kept.0 first kept.1 kept.3);
    }

pub returns-in_ok-keep_first-2-clause-held : goal.returns-in_ok-keep_first-2-clause-held
returns-in_ok-keep_first-2-clause-held c =
    let a = c.in_ok-absorb.ensures in
    let kept = c.in_ok-keep_first-2.ensures in
    let held = keyed_in c.absorb.new.self.rows.items in
    let first = keyed_in c.keep_first-then-are_many.new.held.items in
    let m = kept_fewer c.absorb.new.self.limit held kept.0 first kept.1 kept.3 in
    let n = length-map c.keep_first-then-are_many.new.held.items keyed_of in
    let k = added_length (key_trees c.args.self.now.keys) (keyed_in c.args.self.now.rows.items) held
    (rows_of c.args.self.now.block) a.rows in
    let l = length-map c.args.self.now.rows.items keyed_of in
    omega (arith, m, n, k, l)

pub returns-in_ok-keep_first-2-clause-left : goal.returns-in_ok-keep_first-2-clause-left
returns-in_ok-keep_first-2-clause-left c rows r h =
    let me = c.args.self.now in
    let a = c.in_ok-absorb.ensures in
    let kept = rw (c.as_slice-then-are_many.ensures, a.keys, a.limit) at c.in_ok-keep_first-2.ensures in
    let es = key_trees me.keys in
    let held = keyed_in me.rows.items in
    let absorbed = c.absorb.new.self in
    let now : Order = record absorbed { rows = c.keep_first-then-are_many.new.held } in
    let first : FirstInOrder (directions absorbed.keys) absorbed.limit
    (keyed_in c.keep_first-then-are_many.new.held.items ++ map (with_keys (key_trees absorbed.keys))
    (rows_of absorbed.block ++ coming absorbed.closed rows)) r.rows =
    subst (λ b. LeavesRows b now rows r.rows) (a.sorted ∙ c.if-self.false) h.0 in
    let left = rw (a.keys, a.limit, a.block, a.closed) at first in
    let all = first_leave (directions me.keys) me.limit es held (keyed_in c.absorb.new.self.rows.items) kept.0
    (keyed_in c.keep_first-then-are_many.new.held.items) (rows_of me.block) (coming me.closed rows) r.rows
    a.rows kept.1 kept.2 kept.3 left in
    (subst (λ b. LeavesRows b me rows r.rows) (sym c.if-self.false) all, h.1)
