use Rattle.std.proofs.Common.{◌∙◌, map, ap}
use Rattle.aql_options.proofs.Parsed.{taken, refused}
use Rattle.aql_options.proofs.words.parse_words.Goals as goal

pub returns-clause-taken : goal.returns-clause-taken
returns-clause-taken c =
    taken _ c.in_ok-command.ensures _ _
    (ap (map (λ t. t.now)) c.as_slice.ensures.value ∙ c.in_ok-texts.ensures) _ c.in_ok-matches.ensures.matches
    c.in_ok-matches.ensures.kinds c.settings_of.result c.settings_of.ensures.taken

pub returns-clause-refused : goal.returns-clause-refused
returns-clause-refused c =
    refused _ c.in_ok-command.ensures _ _
    (ap (map (λ t. t.now)) c.as_slice.ensures.value ∙ c.in_ok-texts.ensures) _ c.in_ok-matches.ensures.matches
    c.settings_of.result c.settings_of.ensures.refused
