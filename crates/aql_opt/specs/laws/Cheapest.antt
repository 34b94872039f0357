-- The cheapest candidate of those that were tried so far, and what is chosen at the end.
use Rattle.std.proofs.Common.{◌≡◌, ◌∙◌, ℕ, ◌<◌, ◌≤◌, List, [], ◌∷◌, ◌++◌, Bool, true, false, refl, ap, sym, subst, append_assoc, arith}
use Rattle.std.specs.List.{AllZip, AllByRecursion}
use Rattle.aql_value.specs.laws.Alls.{all_append, all_more}
use Rattle.aql_plan.specs.declared.facts.Facts.{Facts}
use Rattle.aql_plan.specs.declared.rules.RuleName.{RuleName}
use Rattle.aql_plan.specs.declared.rules.RuleName.TheVariants as rule
use Rattle.aql_plan.specs.Plan.{Plan}
use Rattle.aql_plan.specs.declared.rule_sets.Rules.{Rules}
use Rattle.aql_opt.specs.Chosen.{AfterRules, first_rules, later_rules, CandidatesBy, Ended, EndsAs, cost_of, IsCheapest, applied_by_order, Chosen}

abbrev pub are_some : List Ended → Bool
are_some [] = false
are_some (e ∷ es) = true

abbrev pub ending : Plan → List RuleName → Ended
ending q applied = record { plan = q; applied = applied }

-- of these candidates the one that ends as q is the cheapest, and it is another one than the first, or not
pub record Best (facts : Facts) (rules : Rules) (candidates : List Plan) (q : Plan) (applied : List RuleName)
    (reordered : Bool) : Type 0 where
  pub before : List Ended
  pub after : List Ended
  pub cheapest : IsCheapest facts rules candidates before (ending q applied) after
  pub moved : reordered ≡ are_some before

zip_more : {A B : Type 0} (R : A → B → Type 0) (xs : List A) (ys : List B) (x : A) (y : B) → AllZip R xs ys
    → R x y → AllZip R (xs ++ x ∷ []) (ys ++ y ∷ [])
zip_more R [] [] x y h k = (k, tt)
zip_more R [] (b ∷ ys) x y h k = absurd h
zip_more R (a ∷ xs) [] x y h k = absurd h
zip_more R (a ∷ xs) (b ∷ ys) x y h k = (h.0, zip_more R xs ys x y h.1 k)

some_append : (es : List Ended) (e : Ended) (fs : List Ended) → are_some (es ++ e ∷ fs) ≡ true
some_append [] e fs = refl
some_append (d ∷ es) e fs = refl

module _ (facts : Facts) (rules : Rules) where
  pub best_first : (c q : Plan) (applied : List RuleName) (reordered : Bool) → reordered ≡ false
      → AfterRules facts rules c later_rules q applied → Best facts rules (c ∷ []) q applied reordered
  best_first c q applied reordered e h = record {
    before = [];
    after = [];
    cheapest = record { ended = (h, tt); dearer = tt; no_cheaper = tt };
    moved = e;
  }

  pub best_stays : (cs : List Plan) (c q s : Plan) (applied more : List RuleName) (reordered : Bool)
      → Best facts rules cs q applied reordered → AfterRules facts rules c later_rules s more
      → cost_of facts q ≤ cost_of facts s → Best facts rules (cs ++ c ∷ []) q applied reordered
  best_stays cs c q s applied more reordered best h no_less = record {
    before = best.before;
    after = best.after ++ ending s more ∷ [];
    cheapest = record {
      ended =
          subst (λ (es : List Ended). AllZip (EndsAs facts rules) (cs ++ c ∷ []) es)
          (append_assoc best.before (ending q applied ∷ best.after) (ending s more ∷ []))
          (zip_more (EndsAs facts rules) cs (best.before ++ ending q applied ∷ best.after) c (ending s more)
          best.cheapest.ended h);
      dearer = best.cheapest.dearer;
      no_cheaper =
          all_append (λ (e : Ended). cost_of facts q ≤ cost_of facts e.plan) best.after (ending s more ∷ [])
          best.cheapest.no_cheaper (no_less, tt);
    };
    moved = best.moved;
  }

  pub best_changes : (cs : List Plan) (c q s : Plan) (applied more : List RuleName) (reordered other : Bool)
      → Best facts rules cs q applied reordered → AfterRules facts rules c later_rules s more
      → cost_of facts s < cost_of facts q → other ≡ true → Best facts rules (cs ++ c ∷ []) s more other
  best_changes cs c q s applied more reordered other best h less e =
      let costs = λ (d : Ended). cost_of facts d.plan in record {
        before = best.before ++ ending q applied ∷ best.after;
        after = [];
        cheapest = record {
          ended =
              zip_more (EndsAs facts rules) cs (best.before ++ ending q applied ∷ best.after) c
              (ending s more)
              best.cheapest.ended h;
          dearer =
              all_append (λ (d : Ended). cost_of facts s < cost_of facts d.plan) best.before
              (ending q applied ∷ best.after)
              (all_more (λ (d : Ended). cost_of facts q < cost_of facts d.plan)
              (λ (d : Ended). cost_of facts s < cost_of facts d.plan)
              (λ d k. below (cost_of facts s) (cost_of facts q) (cost_of facts d.plan) less k) best.before
              best.cheapest.dearer) (
                less,
                all_more (λ (d : Ended). cost_of facts q ≤ cost_of facts d.plan)
                    (λ (d : Ended). cost_of facts s < cost_of facts d.plan)
                    (λ d k. up_to (cost_of facts s) (cost_of facts q) (cost_of facts d.plan) less k)
                    best.after best.cheapest.no_cheaper,
              );
          no_cheaper = tt;
        };
        moved = e ∙ sym (some_append best.before (ending q applied) best.after);
      }
    where
      below : (a b c : ℕ) → a < b → b < c → a < c
      below a b c h k = omega arith

      up_to : (a b c : ℕ) → a < b → b ≤ c → a < c
      up_to a b c h k = omega arith

-- the rule that is listed where the order is another one
abbrev pub order_names : Bool → List RuleName
order_names true = rule.InterchangeAdjacentEnumerations ∷ []
order_names false = []

told_if : (es : List Ended) (reordered : Bool) → reordered ≡ are_some es
    → order_names reordered ≡ applied_by_order es
told_if [] reordered e = ap order_names e
told_if (d ∷ es) reordered e = ap order_names e

module _ (facts : Facts) (rules : Rules) (p first q : Plan) (early late : List RuleName) (reordered : Bool)
    (ran : AfterRules facts rules p first_rules first early) (candidates : List Plan)
    (are : CandidatesBy rules first candidates) (best : Best facts rules candidates q late reordered) where
  chosen_with : (applied : List RuleName) → applied ≡ early ++ (applied_by_order best.before ++ late)
      → Chosen facts rules p q applied
  chosen_with applied e = record {
    first = ending first early;
    ran_first = ran;
    candidates = candidates;
    are = are;
    before = best.before;
    after = best.after;
    chosen = ending q late;
    cheapest = best.cheapest;
    plan = refl;
    names = e;
  }

  pub chosen_named : (mid applied : List RuleName) → mid ≡ early ++ order_names reordered
      → applied ≡ mid ++ late
      → Chosen facts rules p q applied
  chosen_named mid applied e f =
      chosen_with applied (f ∙ ap (λ (names : List RuleName). names ++ late) e
      ∙ append_assoc early (order_names reordered) late
      ∙ ap (λ (names : List RuleName). early ++ (names ++ late))
      (told_if best.before reordered best.moved))
