-- Lists of names, and lists of lines, that grow.
use Rattle.std.proofs.Common.{◌≡◌, ◌≢◌, ◌∙◌, ◌↔◌, ◌⊎◌, ◌<◌, ◌+◌, ℕ, zero, suc, List, [], ◌∷◌, ◌++◌, map, take, length, get_or, flat_map, Option, Some, None, Ok, Err, inl, inr, sym, ap, ap₂, arith, codes, nat_eq, append_assoc, append-nil}
use Rattle.std.specs.Prelude.{Result, IfOk, MatchOption}
use Rattle.std.specs.Borrow.{Bor}
use Rattle.std.specs.List.{slice_split, Contains}
use Rattle.std.proofs.lemmas.List.{take_more, map-append}
use Rattle.std.proofs.lemmas.List.Elements.{Contains-append_left, Contains-append_right, Contains-append_cases}
use Rattle.std.proofs.lemmas.Grind.{flat_map-append}
use Rattle.aql_value.specs.declared.memory.OutOfMemory.{OutOfMemory}
use Rattle.aql_plan.specs.declared.rules.RuleName.{RuleName}
use Rattle.aql_plan.specs.RuleNames.{rule_text}
use Rattle.aql_plan.specs.declared.rule_sets.Rules.{Rules}
use Rattle.aql_plan.specs.RuleSets.{Has}
use Rattle.aql_options.specs.Words.{AreRules, HasNamed}
use Rattle.aql_options.specs.Generated.{up_to}

-- ---- lines

pub lines_more : (f : ℕ → List ℕ) (start now line after : List ℕ) (k : ℕ) → after ≡ now ++ line
    → now ≡ start ++ flat_map f (up_to k) → line ≡ f (k + 1) → after ≡ start ++ flat_map f (up_to (k + 1))
lines_more f start now line after k is so_far e =
    let next : k + 1 ≡ suc k = omega arith in
    is ∙ ap₂ (λ xs ys. xs ++ ys) so_far (e ∙ ap f next) ∙ append_assoc start (flat_map f (up_to k)) (f (suc k))
    ∙ ap (λ l. start ++ (flat_map f (up_to k) ++ l)) (sym (append-nil (f (suc k))))
    ∙ ap (λ l. start ++ l) (sym (flat_map-append f (up_to k) (suc k ∷ [])))
    ∙ ap (λ n. start ++ flat_map f (up_to n)) (sym next)

-- ---- names

abbrev texts : List (Bor (List ℕ)) → List (List ℕ)
texts items = map (λ name. name.now) items

rule_at : (items : List (Bor (List ℕ))) (names : List RuleName) (at : ℕ) (d : Bor (List ℕ))
    → at < length items → texts items ≡ map rule_text names
    → (r : RuleName) × (rule_text r ≡ (get_or items at d).now)
rule_at [] names at d l e = absurd (omega (arith, l))
rule_at (x ∷ items) [] at d l e = absurd (cc)
rule_at (x ∷ items) (r ∷ names) zero d l e = let here : rule_text r ≡ x.now = cc in (r, here)
rule_at (x ∷ items) (r ∷ names) (suc at) d l e =
    let rest : texts items ≡ map rule_text names = cc in rule_at items names at d (omega (arith, l)) rest

-- a list with a piece that is no rule's name names no rules
pub none_named : (list : List ℕ) (items : List (Bor (List ℕ))) (at : ℕ) (d : Bor (List ℕ))
    → at < length items → texts items ≡ slice_split (λ b. nat_eq b 44) list
    → ((r : RuleName) → rule_text r ≢ (get_or items at d).now) → (others : Rules) → HasNamed list others → ⊥
none_named list items at d l pieces unknown others h =
    let found = rule_at items h.0 at d l (pieces ∙ h.1) in unknown found.0 found.1

-- the rules of the names so far
abbrev pub AreNamedTo : ℕ → List (Bor (List ℕ)) → Rules → Type 0
AreNamedTo at items rules = (so_far : List RuleName)
    × (texts (take at items) ≡ map rule_text so_far)
    × ((r : RuleName) → Has rules r ↔ Contains so_far r)

last_is : (rule r : RuleName) → Contains (rule ∷ []) r → r ≡ rule
last_is rule r (zero, l, e) = sym e
last_is rule r (suc k, l, e) = absurd (omega (arith, l))

is_last : (rule r : RuleName) → r ≡ rule → Contains (rule ∷ []) r
is_last rule r e = (0, omega arith, sym e)

pub named_more : (items : List (Bor (List ℕ))) (at : ℕ) (d : Bor (List ℕ)) → at < length items
    → (rules more : Rules) (rule : RuleName) → rule_text rule ≡ (get_or items at d).now
    → AreNamedTo at items rules → ((r : RuleName) → Has more r ↔ ((r ≡ rule) ⊎ Has rules r))
    → AreNamedTo (at + 1) items more
named_more items at d l rules more rule is h with_it = (
  h.0 ++ rule ∷ [],
  ap texts (take_more items at d l) ∙ map-append (λ (name : Bor (List ℕ)). name.now) (take at items) (get_or items at d ∷ [])
      ∙ ap₂ (λ xs y. xs ++ y ∷ []) h.1 (sym is) ∙ sym (map-append rule_text h.0 (rule ∷ [])),
  λ r. (
    λ has. held r ((with_it r).0 has),
    λ named. (with_it r).1 (told r (Contains-append_cases h.0 (rule ∷ []) r named)),
  ),
)
  where
    held : (r : RuleName) → (r ≡ rule) ⊎ Has rules r → Contains (h.0 ++ rule ∷ []) r
    held r (inl e) = Contains-append_right h.0 (rule ∷ []) r (is_last rule r e)
    held r (inr has) = Contains-append_left h.0 (rule ∷ []) r ((h.2 r).0 has)

    told : (r : RuleName) → Contains h.0 r ⊎ Contains (rule ∷ []) r → (r ≡ rule) ⊎ Has rules r
    told r (inl before) = inr ((h.2 r).1 before)
    told r (inr last) = inl (last_is rule r last)

-- a list that is neither `all` nor `none`
abbrev GivesRules : (Rules → Type 0) → Result (Option Rules) OutOfMemory → Type 0
GivesRules Are r = IfOk r (λ rules. MatchOption rules ((others : Rules) → Are others → ⊥) Are)

pub of_names : (list : List ℕ) (r : Result (Option Rules) OutOfMemory) → (list ≡ codes "all" → ⊥)
    → (list ≡ codes "none" → ⊥) → GivesRules (HasNamed list) r → GivesRules (AreRules (Some list)) r
of_names list (Ok None) all none h = λ others are. refused others are
  where
    refused : (others : Rules) → AreRules (Some list) others → ⊥
    refused others (inl e) = all e.0
    refused others (inr (inl e)) = none e.0
    refused others (inr (inr named)) = h others named
of_names list (Ok (Some rules)) all none h = inr (inr h)
of_names list (Err e) all none h = tt
