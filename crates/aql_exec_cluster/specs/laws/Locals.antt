-- A choice of two executors that are never in the midst of the work of a port, or that are no foot.
use Rattle.std.specs.Prelude.{◌≡◌, false}
use Rattle.aql_exec.specs.Operators.{Operator}
use Rattle.aql_engine.specs.Choices.{on, On}
use Rattle.aql_engine.specs.declared.choice.Choice.{Choice}
use Rattle.aql_engine.specs.declared.choice.Choice.TheVariants.{First, Second}
use Rattle.aql_exec_cluster.specs.Fragments.{is_foot}

pub neither_busy : {A B : Type 0} (fa : A → Type 0) (fb : B → Type 0)
    → ((a : A) → fa a → ⊥) → ((b : B) → fb b → ⊥) → (s : Choice A B) → On fa fb s → ⊥
neither_busy fa fb f h (First a) o = f a o
neither_busy fa fb f h (Second b) o = h b o

-- and of two that are no foot of a fragment
pub neither_foot : {A B : Type 0} (na : A → Operator) (nb : B → Operator)
    → ((a : A) → is_foot (na a) ≡ false) → ((b : B) → is_foot (nb b) ≡ false) → (s : Choice A B)
    → is_foot (on na nb s) ≡ false
neither_foot na nb f h (First a) = f a
neither_foot na nb f h (Second b) = h b
