-- Lists that are no answers.
use Rattle.aql_meaning.specs.worked.Refuted.{RefutedAnswers}
use Rattle.aql_meaning.proofs.RefutedClauses.{last_kept, not_sorted, document_twice, document_left_out, member_left_out, evaluated_again}
use Rattle.aql_meaning.proofs.RefutedTraversals.{beyond_prune, later_depth, two_paths, vertex_left_out, beyond_pruned_b}

pub refuted_answers : RefutedAnswers
refuted_answers = record {
  last_kept = record { refuted = last_kept };
  not_sorted = record { refuted = not_sorted };
  document_twice = record { refuted = document_twice };
  document_left_out = record { refuted = document_left_out };
  member_left_out = record { refuted = member_left_out };
  evaluated_again = record { refuted = evaluated_again };
  beyond_prune = record { refuted = beyond_prune };
  later_depth = record { refuted = later_depth };
  two_paths = record { refuted = two_paths };
  vertex_left_out = record { refuted = vertex_left_out };
  beyond_pruned_b = record { refuted = beyond_pruned_b };
}
