-- How many elements of a list are kept where a negative number leaves out that many at the end; for private
-- clauses.
use Rattle.std.specs.Prelude.{ℕ, ℤ, pos, negsuc, ◌+◌, ◌-◌}

abbrev pub prefix_length : ℕ → ℤ → ℕ
prefix_length size (pos k) = k
prefix_length size (negsuc k) = size - (k + 1)
