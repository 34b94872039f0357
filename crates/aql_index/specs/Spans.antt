-- Spans of an index: the places from one up to another, which is not one of them.
use Rattle.std.specs.Prelude.{ℕ, ◌-◌, ◌≤◌, ◌<◌, List, [], ◌∷◌, take, drop}
use Rattle.aql_index.specs.declared.bounds.Span.{Span}

-- a span of places below n
abbrev pub IsSpan : ℕ → Span → Type 0
IsSpan n span = (span.from ≤ span.to) × (span.to ≤ n)

-- what stands in a span
abbrev pub spanned : {X : Type 0} → List X → Span → List X
spanned xs span = take (span.to - span.from) (drop span.from xs)

-- spans of places from `start` on and below `end`: none is empty, and each is after those in front of it
abbrev pub AreApart : ℕ → List Span → ℕ → Type 0
AreApart start [] end = start ≤ end
AreApart start (span ∷ spans) end =
    (start ≤ span.from) × (span.from < span.to) × AreApart span.to spans end
