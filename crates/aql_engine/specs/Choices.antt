-- What is said of one of two executors is said of the one that it is.
use Rattle.aql_engine.specs.declared.choice.Choice.{Choice}
use Rattle.aql_engine.specs.declared.choice.Choice.TheVariants.{First, Second}

-- a value of either
abbrev pub on : {A B R : Type 0} → (A → R) → (B → R) → Choice A B → R
on f g (First a) = f a
on f g (Second b) = g b

-- a fact of either
abbrev pub On : {A B : Type 0} → (A → Type 0) → (B → Type 0) → Choice A B → Type 0
On f g (First a) = f a
On f g (Second b) = g b
