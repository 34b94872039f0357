use Rattle.std.proofs.Common.{sym, ap, ◌∙◌, subst}
use Rattle.std.specs.List.{prefix_len}
use Rattle.aql_lex.specs.declared.kinds.TokenKind.TheVariants as k
use Rattle.aql_lex.specs.Characters.{is_word_part}
use Rattle.aql_lex.specs.Tokens.{IsToken}
use Rattle.aql_lex.specs.laws.Runs.{cut_is_run}
use Rattle.aql_lex.proofs.Cuts.{word_boundary}
use Rattle.aql_lex.specs.laws.Names.{word_takes, run_is_word}
use Rattle.aql_lex.proofs.scans.word.Goals as goal
use Rattle.aql_lex.proofs.scans.word.Goals.{in-Some, in-None+in_ok-new-in-None}

pub split_at-requires : goal.split_at-requires
split_at-requires c =
    word_boundary c.args.text.now _ c.utf8.text
    (c.word_len.ensures.value ∙ ap (prefix_len is_word_part) c.as_bytes.ensures.value)

pub returns-clause-takes : goal.returns-clause-takes
returns-clause-takes c =
    let run = cut_is_run is_word_part c.args.text.now c.split_at.result.0.now c.split_at.result.1.now _
    (c.word_len.ensures.value ∙ ap (prefix_len is_word_part) c.as_bytes.ensures.value)
    c.split_at.ensures.front c.split_at.ensures.back in
    let is = run_is_word _ _ _ c.requires run in
    word_takes _ _ _ _ c.requires run
    (elim c.match-keyword.branch [
      | in-Some w ↦ subst (λ q. IsToken q c.args.text.now c.split_at.result.1.now) (sym w.kind-is)
          (_, (is, w.in-Some.ensures, run.splits))
      | in-None+in_ok-new-in-None w ↦
          subst (λ q. IsToken q c.args.text.now c.split_at.result.1.now) (sym w.kind-is)
          (subst (λ v. IsToken (k.Word v) c.args.text.now c.split_at.result.1.now)
          (sym w.in_ok-new-in-None.ensures) (is, w.in-None.ensures, run.splits))
    ])
