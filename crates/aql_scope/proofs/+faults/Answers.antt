use Rattle.std.proofs.lemmas.Grind.{common_steps}
use Rattle.std.proofs.Common.{arith}
use Rattle.aql_tree.specs.declared.syntax.Expr.{the_lemmas}
use Rattle.aql_tree.specs.declared.syntax.Clause.{the_lemmas as clause_lemmas}
use Rattle.aql_scope.proofs.Words.{count_args}
use Rattle.aql_scope.proofs.+faults.Goals as goal

-- With no answer the search is tried first, in vain, and these goals take two and a half times as long.

pub clause_faults::in_aggregates-returns-in_err-new_name-clause-fault
    : goal.clause_faults::in_aggregates-returns-in_err-new_name-clause-fault
clause_faults::in_aggregates-returns-in_err-new_name-clause-fault t c =
    grind (arith, common_steps, the_lemmas, clause_lemmas)

pub clause_faults::in_aggregates-returns-in_err-aggregate_fault-clause-fault
    : goal.clause_faults::in_aggregates-returns-in_err-aggregate_fault-clause-fault
clause_faults::in_aggregates-returns-in_err-aggregate_fault-clause-fault t c =
    grind (arith, common_steps, the_lemmas, clause_lemmas)

pub clause_faults::in_aggregates-returns-in_err-in_maybe-clause-fault
    : goal.clause_faults::in_aggregates-returns-in_err-in_maybe-clause-fault
clause_faults::in_aggregates-returns-in_err-in_maybe-clause-fault t c =
    grind (arith, common_steps, the_lemmas, clause_lemmas)

pub clause_faults::in_aggregates-returns-in_err-enter-clause-fault
    : goal.clause_faults::in_aggregates-returns-in_err-enter-clause-fault
clause_faults::in_aggregates-returns-in_err-enter-clause-fault t c = grind (arith, the_lemmas, clause_lemmas)

pub clause_faults::in_aggregates-loop-item-preserved : goal.clause_faults::in_aggregates-loop-item-preserved
clause_faults::in_aggregates-loop-item-preserved t c = grind (arith, common_steps, the_lemmas, clause_lemmas)

pub clause_faults::in_aggregates-returns-clause-fault : goal.clause_faults::in_aggregates-returns-clause-fault
clause_faults::in_aggregates-returns-clause-fault t c = grind (arith, common_steps, the_lemmas, clause_lemmas)

pub clause_faults::in_aggregates-returns-clause-earlier
    : goal.clause_faults::in_aggregates-returns-clause-earlier
clause_faults::in_aggregates-returns-clause-earlier t c =
    grind (arith, common_steps, the_lemmas, clause_lemmas)

pub clause_faults::in_clause-returns-in_err-new_alone-in-For
    : goal.clause_faults::in_clause-returns-in_err-new_alone-in-For
clause_faults::in_clause-returns-in_err-new_alone-in-For t c = grind (arith, the_lemmas, clause_lemmas)

pub clause_faults::in_clause-returns-in_err-new_alone-in-ForDocs
    : goal.clause_faults::in_clause-returns-in_err-new_alone-in-ForDocs
clause_faults::in_clause-returns-in_err-new_alone-in-ForDocs t c = grind (arith, the_lemmas, clause_lemmas)

pub clause_faults::in_clause-returns-in_err-new_alone-in-Let
    : goal.clause_faults::in_clause-returns-in_err-new_alone-in-Let
clause_faults::in_clause-returns-in_err-new_alone-in-Let t c = grind (arith, the_lemmas, clause_lemmas)

pub clause_faults::in_clause-returns-in-Var : goal.clause_faults::in_clause-returns-in-Var
clause_faults::in_clause-returns-in-Var t c = grind (arith, the_lemmas, clause_lemmas)

pub clause_faults::in_clause-returns-in_default : goal.clause_faults::in_clause-returns-in_default
clause_faults::in_clause-returns-in_default t c = grind (arith, the_lemmas, clause_lemmas)

pub clause_faults::in_clause-returns-in_ok-new_alone-in-ForDocs
    : goal.clause_faults::in_clause-returns-in_ok-new_alone-in-ForDocs
clause_faults::in_clause-returns-in_ok-new_alone-in-ForDocs t c = grind (arith, the_lemmas, clause_lemmas)

pub clause_faults::in_clause-returns-in-Traversal : goal.clause_faults::in_clause-returns-in-Traversal
clause_faults::in_clause-returns-in-Traversal t c = grind (arith, the_lemmas, clause_lemmas)

pub clause_faults::in_clause-returns-in-Filter : goal.clause_faults::in_clause-returns-in-Filter
clause_faults::in_clause-returns-in-Filter t c = grind (arith, the_lemmas, clause_lemmas)

pub clause_faults::in_clause-returns-in_ok-new_alone-in-Let
    : goal.clause_faults::in_clause-returns-in_ok-new_alone-in-Let
clause_faults::in_clause-returns-in_ok-new_alone-in-Let t c = grind (arith, the_lemmas, clause_lemmas)

pub clause_faults::in_clause-returns-in-Sort : goal.clause_faults::in_clause-returns-in-Sort
clause_faults::in_clause-returns-in-Sort t c = grind (arith, the_lemmas, clause_lemmas)

pub clause_faults::in_clause-returns-in-Limit : goal.clause_faults::in_clause-returns-in-Limit
clause_faults::in_clause-returns-in-Limit t c = grind (arith, the_lemmas, clause_lemmas)

pub clause_faults::in_clause-returns-in-Collect : goal.clause_faults::in_clause-returns-in-Collect
clause_faults::in_clause-returns-in-Collect t c = grind (arith, the_lemmas, clause_lemmas)

pub clause_faults::in_collect-returns-in_err-in_criteria
    : goal.clause_faults::in_collect-returns-in_err-in_criteria
clause_faults::in_collect-returns-in_err-in_criteria t c = grind (arith, the_lemmas, clause_lemmas)

pub clause_faults::in_collect-returns-in_err-in_aggregates
    : goal.clause_faults::in_collect-returns-in_err-in_aggregates
clause_faults::in_collect-returns-in_err-in_aggregates t c = grind (arith, the_lemmas, clause_lemmas)

pub clause_faults::in_collect-returns-in-Some : goal.clause_faults::in_collect-returns-in-Some
clause_faults::in_collect-returns-in-Some t c = grind (arith, the_lemmas, clause_lemmas)

pub clause_faults::in_collect-returns : goal.clause_faults::in_collect-returns
clause_faults::in_collect-returns t c = grind (arith, the_lemmas, clause_lemmas)

pub clause_faults::in_criteria-returns-in_err-new_name-clause-fault
    : goal.clause_faults::in_criteria-returns-in_err-new_name-clause-fault
clause_faults::in_criteria-returns-in_err-new_name-clause-fault t c =
    grind (arith, common_steps, the_lemmas, clause_lemmas)

pub clause_faults::in_criteria-returns-in_err-in_expr-clause-fault
    : goal.clause_faults::in_criteria-returns-in_err-in_expr-clause-fault
clause_faults::in_criteria-returns-in_err-in_expr-clause-fault t c =
    grind (arith, common_steps, the_lemmas, clause_lemmas)

pub clause_faults::in_criteria-returns-in_err-enter-clause-fault
    : goal.clause_faults::in_criteria-returns-in_err-enter-clause-fault
clause_faults::in_criteria-returns-in_err-enter-clause-fault t c = grind (arith, the_lemmas, clause_lemmas)

pub clause_faults::in_criteria-loop-group-preserved : goal.clause_faults::in_criteria-loop-group-preserved
clause_faults::in_criteria-loop-group-preserved t c = grind (arith, common_steps, the_lemmas, clause_lemmas)

pub clause_faults::in_criteria-returns-clause-fault : goal.clause_faults::in_criteria-returns-clause-fault
clause_faults::in_criteria-returns-clause-fault t c = grind (arith, common_steps, the_lemmas, clause_lemmas)

pub clause_faults::in_criteria-returns-clause-earlier : goal.clause_faults::in_criteria-returns-clause-earlier
clause_faults::in_criteria-returns-clause-earlier t c = grind (arith, common_steps, the_lemmas, clause_lemmas)

pub clause_faults::in_into-returns-in_err-new_name : goal.clause_faults::in_into-returns-in_err-new_name
clause_faults::in_into-returns-in_err-new_name t c = grind (arith, the_lemmas, clause_lemmas)

pub clause_faults::in_into-returns-in_err-in_maybe : goal.clause_faults::in_into-returns-in_err-in_maybe
clause_faults::in_into-returns-in_err-in_maybe t c = grind (arith, the_lemmas, clause_lemmas)

pub clause_faults::in_into-returns : goal.clause_faults::in_into-returns
clause_faults::in_into-returns t c = grind (arith, the_lemmas, clause_lemmas)

pub clause_faults::in_keys-returns-in_err-in_expr : goal.clause_faults::in_keys-returns-in_err-in_expr
clause_faults::in_keys-returns-in_err-in_expr t c = grind (arith, common_steps, the_lemmas, clause_lemmas)

pub clause_faults::in_keys-loop-key-preserved : goal.clause_faults::in_keys-loop-key-preserved
clause_faults::in_keys-loop-key-preserved t c = grind (arith, common_steps, the_lemmas, clause_lemmas)

pub clause_faults::in_keys-returns : goal.clause_faults::in_keys-returns
clause_faults::in_keys-returns t c = grind (arith, common_steps, the_lemmas, clause_lemmas)

pub clause_faults::in_prune-returns-in_err-inner : goal.clause_faults::in_prune-returns-in_err-inner
clause_faults::in_prune-returns-in_err-inner t c = grind (arith, the_lemmas, clause_lemmas)

pub clause_faults::in_prune-returns-in_err-enter_traversal
    : goal.clause_faults::in_prune-returns-in_err-enter_traversal
clause_faults::in_prune-returns-in_err-enter_traversal t c = grind (arith, the_lemmas, clause_lemmas)

pub clause_faults::in_prune-returns : goal.clause_faults::in_prune-returns
clause_faults::in_prune-returns t c = grind (arith, the_lemmas, clause_lemmas)

pub clause_faults::in_query-returns-in_err-known_collections
    : goal.clause_faults::in_query-returns-in_err-known_collections
clause_faults::in_query-returns-in_err-known_collections t c = grind (arith, the_lemmas, clause_lemmas)

pub clause_faults::in_query-returns-in_err-scope : goal.clause_faults::in_query-returns-in_err-scope
clause_faults::in_query-returns-in_err-scope t c = grind (arith, the_lemmas, clause_lemmas)

pub clause_faults::in_query-returns-in_err-in_clause : goal.clause_faults::in_query-returns-in_err-in_clause
clause_faults::in_query-returns-in_err-in_clause t c = grind (arith, common_steps, the_lemmas, clause_lemmas)

pub clause_faults::in_query-returns-in_err-enter_clause
    : goal.clause_faults::in_query-returns-in_err-enter_clause
clause_faults::in_query-returns-in_err-enter_clause t c = grind (arith, the_lemmas, clause_lemmas)

pub clause_faults::in_query-loop-clause-preserved : goal.clause_faults::in_query-loop-clause-preserved
clause_faults::in_query-loop-clause-preserved t c = grind (arith, common_steps, the_lemmas, clause_lemmas)

pub clause_faults::in_query-returns : goal.clause_faults::in_query-returns
clause_faults::in_query-returns t c = grind (arith, common_steps, the_lemmas, clause_lemmas)

pub clause_faults::in_traversal-returns-in_err-new_traversal_names
    : goal.clause_faults::in_traversal-returns-in_err-new_traversal_names
clause_faults::in_traversal-returns-in_err-new_traversal_names t c = grind (arith, the_lemmas, clause_lemmas)

pub clause_faults::in_traversal-returns-then-traversal
    : goal.clause_faults::in_traversal-returns-then-traversal
clause_faults::in_traversal-returns-then-traversal t c = grind (arith, the_lemmas, clause_lemmas)

pub clause_faults::in_traversal-returns-in_err-in_expr
    : goal.clause_faults::in_traversal-returns-in_err-in_expr
clause_faults::in_traversal-returns-in_err-in_expr t c = grind (arith, the_lemmas, clause_lemmas)

pub clause_faults::in_traversal-returns-in_err-edge_collections
    : goal.clause_faults::in_traversal-returns-in_err-edge_collections
clause_faults::in_traversal-returns-in_err-edge_collections t c = grind (arith, the_lemmas, clause_lemmas)

pub clause_faults::in_traversal-returns-in_err-in_prune
    : goal.clause_faults::in_traversal-returns-in_err-in_prune
clause_faults::in_traversal-returns-in_err-in_prune t c = grind (arith, the_lemmas, clause_lemmas)

pub clause_faults::in_traversal-returns : goal.clause_faults::in_traversal-returns
clause_faults::in_traversal-returns t c = grind (arith, the_lemmas, clause_lemmas)

pub expr_faults::in_call-returns : goal.expr_faults::in_call-returns
expr_faults::in_call-returns t c = grind (arith, the_lemmas, count_args)

pub expr_faults::in_branch-returns-in-Some : goal.expr_faults::in_branch-returns-in-Some
expr_faults::in_branch-returns-in-Some t c = grind (arith, the_lemmas, clause_lemmas)

pub expr_faults::in_branch-returns-in-None : goal.expr_faults::in_branch-returns-in-None
expr_faults::in_branch-returns-in-None t c = grind (arith, the_lemmas, clause_lemmas)

pub expr_faults::in_expr-returns-in_err-in_expr-in-Access
    : goal.expr_faults::in_expr-returns-in_err-in_expr-in-Access
expr_faults::in_expr-returns-in_err-in_expr-in-Access t c = grind (arith, the_lemmas, clause_lemmas)

pub expr_faults::in_expr-returns-in_err-in_expr-in-Chain
    : goal.expr_faults::in_expr-returns-in_err-in_expr-in-Chain
expr_faults::in_expr-returns-in_err-in_expr-in-Chain t c = grind (arith, the_lemmas, clause_lemmas)

pub expr_faults::in_expr-returns-in_err-in_expr-in-Quant
    : goal.expr_faults::in_expr-returns-in_err-in_expr-in-Quant
expr_faults::in_expr-returns-in_err-in_expr-in-Quant t c = grind (arith, the_lemmas, clause_lemmas)

pub expr_faults::in_expr-returns-in_err-in_expr-in-Cond
    : goal.expr_faults::in_expr-returns-in_err-in_expr-in-Cond
expr_faults::in_expr-returns-in_err-in_expr-in-Cond t c = grind (arith, the_lemmas, clause_lemmas)

pub expr_faults::in_expr-returns-in_err-in_branch-in-Cond
    : goal.expr_faults::in_expr-returns-in_err-in_branch-in-Cond
expr_faults::in_expr-returns-in_err-in_branch-in-Cond t c = grind (arith, the_lemmas, clause_lemmas)

pub expr_faults::in_expr-returns-in_err-in_expr-in-Range
    : goal.expr_faults::in_expr-returns-in_err-in_expr-in-Range
expr_faults::in_expr-returns-in_err-in_expr-in-Range t c = grind (arith, the_lemmas, clause_lemmas)

pub expr_faults::in_expr-returns-in-Lit : goal.expr_faults::in_expr-returns-in-Lit
expr_faults::in_expr-returns-in-Lit t c = grind (arith, the_lemmas, clause_lemmas)

pub expr_faults::in_expr-returns-in-Var : goal.expr_faults::in_expr-returns-in-Var
expr_faults::in_expr-returns-in-Var t c = grind (arith, the_lemmas, clause_lemmas)

pub expr_faults::in_expr-returns-in-Current : goal.expr_faults::in_expr-returns-in-Current
expr_faults::in_expr-returns-in-Current t c = grind (arith, the_lemmas, clause_lemmas)

pub expr_faults::in_expr-returns-in-List : goal.expr_faults::in_expr-returns-in-List
expr_faults::in_expr-returns-in-List t c = grind (arith, the_lemmas, clause_lemmas)

pub expr_faults::in_expr-returns-in-Object : goal.expr_faults::in_expr-returns-in-Object
expr_faults::in_expr-returns-in-Object t c = grind (arith, the_lemmas, clause_lemmas)

pub expr_faults::in_expr-returns-in_ok-in_expr-in-Access
    : goal.expr_faults::in_expr-returns-in_ok-in_expr-in-Access
expr_faults::in_expr-returns-in_ok-in_expr-in-Access t c = grind (arith, the_lemmas, clause_lemmas)

pub expr_faults::in_expr-returns-in-Call : goal.expr_faults::in_expr-returns-in-Call
expr_faults::in_expr-returns-in-Call t c = grind (arith, the_lemmas, clause_lemmas)

pub expr_faults::in_expr-returns-in-Unary : goal.expr_faults::in_expr-returns-in-Unary
expr_faults::in_expr-returns-in-Unary t c = grind (arith, the_lemmas, clause_lemmas)

pub expr_faults::in_expr-returns-in_ok-in_expr-in-Chain
    : goal.expr_faults::in_expr-returns-in_ok-in_expr-in-Chain
expr_faults::in_expr-returns-in_ok-in_expr-in-Chain t c = grind (arith, the_lemmas, clause_lemmas)

pub expr_faults::in_expr-returns-in_ok-in_expr-in-Quant
    : goal.expr_faults::in_expr-returns-in_ok-in_expr-in-Quant
expr_faults::in_expr-returns-in_ok-in_expr-in-Quant t c = grind (arith, the_lemmas, clause_lemmas)

pub expr_faults::in_expr-returns-in_ok-in_branch-in-Cond
    : goal.expr_faults::in_expr-returns-in_ok-in_branch-in-Cond
expr_faults::in_expr-returns-in_ok-in_branch-in-Cond t c = grind (arith, the_lemmas, clause_lemmas)

pub expr_faults::in_expr-returns-in_ok-in_expr-in-Range
    : goal.expr_faults::in_expr-returns-in_ok-in_expr-in-Range
expr_faults::in_expr-returns-in_ok-in_expr-in-Range t c = grind (arith, the_lemmas, clause_lemmas)

pub expr_faults::in_expr-returns-in-Sub : goal.expr_faults::in_expr-returns-in-Sub
expr_faults::in_expr-returns-in-Sub t c = grind (arith, the_lemmas, clause_lemmas)

pub expr_faults::in_expr-returns-in-Sub-2 : goal.expr_faults::in_expr-returns-in-Sub-2
expr_faults::in_expr-returns-in-Sub-2 t c = grind (arith, the_lemmas, clause_lemmas)

pub expr_faults::in_exprs-returns-in_err-in_expr : goal.expr_faults::in_exprs-returns-in_err-in_expr
expr_faults::in_exprs-returns-in_err-in_expr t c = grind (arith, common_steps, the_lemmas, clause_lemmas)

pub expr_faults::in_exprs-loop-expr-preserved : goal.expr_faults::in_exprs-loop-expr-preserved
expr_faults::in_exprs-loop-expr-preserved t c = grind (arith, common_steps, the_lemmas, clause_lemmas)

pub expr_faults::in_exprs-returns : goal.expr_faults::in_exprs-returns
expr_faults::in_exprs-returns t c = grind (arith, common_steps, the_lemmas, clause_lemmas)

pub expr_faults::in_links-returns-in_err-in_expr : goal.expr_faults::in_links-returns-in_err-in_expr
expr_faults::in_links-returns-in_err-in_expr t c = grind (arith, common_steps, the_lemmas, clause_lemmas)

pub expr_faults::in_links-loop-link-preserved : goal.expr_faults::in_links-loop-link-preserved
expr_faults::in_links-loop-link-preserved t c = grind (arith, common_steps, the_lemmas, clause_lemmas)

pub expr_faults::in_links-returns : goal.expr_faults::in_links-returns
expr_faults::in_links-returns t c = grind (arith, common_steps, the_lemmas, clause_lemmas)

pub expr_faults::in_maybe-returns-in-Some : goal.expr_faults::in_maybe-returns-in-Some
expr_faults::in_maybe-returns-in-Some t c = grind (arith, the_lemmas, clause_lemmas)

pub expr_faults::in_maybe-returns-in-None : goal.expr_faults::in_maybe-returns-in-None
expr_faults::in_maybe-returns-in-None t c = grind (arith, the_lemmas, clause_lemmas)

pub expr_faults::in_members-returns-in_err-in_expr-in-Named
    : goal.expr_faults::in_members-returns-in_err-in_expr-in-Named
expr_faults::in_members-returns-in_err-in_expr-in-Named t c =
    grind (arith, common_steps, the_lemmas, clause_lemmas)

pub expr_faults::in_members-returns-in_err-in_expr-in-Computed
    : goal.expr_faults::in_members-returns-in_err-in_expr-in-Computed
expr_faults::in_members-returns-in_err-in_expr-in-Computed t c =
    grind (arith, common_steps, the_lemmas, clause_lemmas)

pub expr_faults::in_members-returns-in_err-in_expr-in-Computed-2
    : goal.expr_faults::in_members-returns-in_err-in_expr-in-Computed-2
expr_faults::in_members-returns-in_err-in_expr-in-Computed-2 t c =
    grind (arith, common_steps, the_lemmas, clause_lemmas)

pub expr_faults::in_members-loop-field-preserved : goal.expr_faults::in_members-loop-field-preserved
expr_faults::in_members-loop-field-preserved t c = grind (arith, common_steps, the_lemmas, clause_lemmas)

pub expr_faults::in_members-returns : goal.expr_faults::in_members-returns
expr_faults::in_members-returns t c = grind (arith, common_steps, the_lemmas, clause_lemmas)

pub expr_faults::in_steps-returns-in_err-in_expr-in-At
    : goal.expr_faults::in_steps-returns-in_err-in_expr-in-At
expr_faults::in_steps-returns-in_err-in_expr-in-At t c =
    grind (arith, common_steps, the_lemmas, clause_lemmas)

pub expr_faults::in_steps-returns-in_err-in_maybe-in-Each
    : goal.expr_faults::in_steps-returns-in_err-in_maybe-in-Each
expr_faults::in_steps-returns-in_err-in_maybe-in-Each t c =
    grind (arith, common_steps, the_lemmas, clause_lemmas)

pub expr_faults::in_steps-returns-in_err-in_maybe-in-Each-2
    : goal.expr_faults::in_steps-returns-in_err-in_maybe-in-Each-2
expr_faults::in_steps-returns-in_err-in_maybe-in-Each-2 t c =
    grind (arith, common_steps, the_lemmas, clause_lemmas)

pub expr_faults::in_steps-loop-step-preserved : goal.expr_faults::in_steps-loop-step-preserved
expr_faults::in_steps-loop-step-preserved t c = grind (arith, common_steps, the_lemmas, clause_lemmas)

pub expr_faults::in_steps-returns : goal.expr_faults::in_steps-returns
expr_faults::in_steps-returns t c = grind (arith, common_steps, the_lemmas, clause_lemmas)

pub option_faults::in_options-returns-in_err-in_expr-in-Named
    : goal.option_faults::in_options-returns-in_err-in_expr-in-Named
option_faults::in_options-returns-in_err-in_expr-in-Named t c =
    grind (arith, common_steps, the_lemmas, clause_lemmas)

pub option_faults::in_options-returns-in_err-setting_fault-in-Named
    : goal.option_faults::in_options-returns-in_err-setting_fault-in-Named
option_faults::in_options-returns-in_err-setting_fault-in-Named t c =
    grind (arith, common_steps, the_lemmas, clause_lemmas)

pub option_faults::in_options-returns-in_err-in_expr-in-Computed
    : goal.option_faults::in_options-returns-in_err-in_expr-in-Computed
option_faults::in_options-returns-in_err-in_expr-in-Computed t c =
    grind (arith, common_steps, the_lemmas, clause_lemmas)

pub option_faults::in_options-returns-in_err-in_expr-in-Computed-2
    : goal.option_faults::in_options-returns-in_err-in_expr-in-Computed-2
option_faults::in_options-returns-in_err-in_expr-in-Computed-2 t c =
    grind (arith, common_steps, the_lemmas, clause_lemmas)

pub option_faults::in_options-returns-in-Computed : goal.option_faults::in_options-returns-in-Computed
option_faults::in_options-returns-in-Computed t c = grind (arith, common_steps, the_lemmas, clause_lemmas)

pub option_faults::in_options-loop-setting-preserved : goal.option_faults::in_options-loop-setting-preserved
option_faults::in_options-loop-setting-preserved t c = grind (arith, common_steps, the_lemmas, clause_lemmas)

pub option_faults::in_options-returns-then-not-fits : goal.option_faults::in_options-returns-then-not-fits
option_faults::in_options-returns-then-not-fits t c = grind (arith, common_steps, the_lemmas, clause_lemmas)

pub option_faults::in_options-returns : goal.option_faults::in_options-returns
option_faults::in_options-returns t c = grind (arith, common_steps, the_lemmas, clause_lemmas)
