-- The aggregates and INTO of a COLLECT without those whose variables are not used: the rows agree in what is
-- used, and what is used is there.
use Rattle.std.proofs.Common.{◌≡◌, ◌∙◌, suc, ◌+◌, ◌≤◌, ◌<◌, List, [], ◌∷◌, ◌++◌, map, length, Bool, true, false, true≢false, cond, refl, ap, sym, subst, arith}
use Rattle.std.specs.Prelude.{◌||◌, ◌&&◌, option_to_list}
use Rattle.std.specs.List.{AllZip}
use Rattle.std.proofs.lemmas.List.Sorted.{IsPermutation-refl}
use Rattle.aql_value.specs.Datum.{Datum}
use Rattle.aql_value.specs.Contents.{list}
use Rattle.aql_tree.specs.declared.syntax.Ident.{Ident}
use Rattle.aql_tree.specs.Tree.{ExprTrees, AggregateTrees, no_aggregates, aggregate_then, IntoTree, no_into, into}
use Rattle.aql_meaning.specs.Groups.{aggregate_of}
use Rattle.aql_meaning.specs.Lifted.{IntoPlain}
use Rattle.aql_meaning.specs.Row.{Row, bind, bind_all, same_ident}
use Rattle.aql_meaning.specs.Stages.{taken_at}
use Rattle.aql_meaning.specs.Uses.{Uses, Agree, maybe_uses, aggregate_uses, into_uses, is_used}
use Rattle.aql_meaning.specs.Visible.{aggregate_vars, into_var}
use Rattle.aql_plan.specs.Fits.{AllKnown}
use Rattle.aql_plan.specs.Variables.{are_among, count}
use Rattle.aql_plan_laws.specs.laws.Agreement.{agree_self, agree_bind, agree_through}
use Rattle.aql_plan_laws.specs.laws.Among.{count_append}
use Rattle.aql_meaning.specs.laws.Idents.{same_is}
use Rattle.aql_plan_laws.specs.laws.Lists.{chosen}
use Rattle.aql_rewrite.specs.laws.Among.{has, has_front, has_back, has_either, among_join, among_split}
use Rattle.aql_rewrite.specs.laws.Unused.{agree_unused}
use Rattle.aql_rules_order.specs.RemoveCollectVariables.{used_aggregates, used_into, own_vars, all_used}
use Rattle.aql_rules_order.specs.laws.Members.{argument_at, members, aggregated, given_row, groups_of, WithTaken, OfGroup, RowsGrouped}

module _ (us : Uses) where
  -- ---- the rows of groups

  aggregates_agree : (gs : AggregateTrees) (own : List Row) (r s : Row) → Agree us r s
      → Agree us
      (bind_all (aggregate_vars (used_aggregates us gs)) (aggregated (used_aggregates us gs) own) r)
      (bind_all (aggregate_vars gs) (aggregated gs own) s)
  aggregates_agree no_aggregates own r s h = h
  aggregates_agree (aggregate_then x name e rest) own r s h =
      by (is_used x us) refl (λ t u k. aggregates_agree rest own t u k)
    where
      v : Datum
      v = aggregate_of name (map (argument_at e) own)

      less : AggregateTrees
      less = used_aggregates us rest

      by : (b : Bool) → is_used x us ≡ b
          → ((t u : Row) → Agree us t u → Agree us (bind_all (aggregate_vars less) (aggregated less own) t)
          (bind_all (aggregate_vars rest) (aggregated rest own) u))
          → Agree us (bind_all (aggregate_vars (cond b (aggregate_then x name e less) less))
          (aggregated (cond b (aggregate_then x name e less) less) own) r)
          (bind_all (aggregate_vars rest) (aggregated rest own) (bind x s v))
      by true k f = f (bind x r v) (bind x s v) (agree_bind us x r s v h)
      by false k f = f r (bind x s v)
          (agree_through us r s (bind x s v) h (agree_unused us x s v k))

  into_agrees : (i : IntoTree) (own : List Row) (r s out : Row) → Agree us r s
      → WithTaken (used_into us i) own r out
      → (other : Row) × WithTaken i own s other × Agree us out other
  into_agrees no_into own r s out h g = (s, refl, subst (λ (t : Row). Agree us t s) (sym g) h)
  into_agrees (into x what keep) own r s out h g = by (is_used x us) refl g
    where
      by : (b : Bool) → is_used x us ≡ b → WithTaken (cond b (into x what keep) no_into) own r out
          → (other : Row) × WithTaken (into x what keep) own s other × Agree us out other
      by true k g = (
        bind x s (list g.0),
        (g.0, g.1, refl),
        subst (λ (t : Row). Agree us t (bind x s (list g.0))) (sym g.2) (agree_bind us x r s (list g.0) h),
      )
      by false k g =
          let taken = map (taken_at (into x what keep)) own in (
            bind x s (list taken),
            (taken, IsPermutation-refl taken, refl),
            subst (λ (t : Row). Agree us t (bind x s (list taken))) (sym g)
                (agree_through us r s (bind x s (list taken)) h (agree_unused us x s (list taken) k)),
          )

  pub groups_agree : (xs : List Ident) (es : ExprTrees) (gs : AggregateTrees) (i : IntoTree) (start : Row)
      (rows out : List Row)
      → RowsGrouped xs es (used_aggregates us gs) (used_into us i) start rows out
      → (other : List Row) × RowsGrouped xs es gs i start rows other × AllZip (Agree us) out other
  groups_agree xs es gs i start rows out h =
      chosen (Agree us) (OfGroup xs es (used_aggregates us gs) (used_into us i) start rows)
      (OfGroup xs es gs i start rows)
      (λ c given k. into_agrees i (members es rows c)
      (given_row xs (used_aggregates us gs) start (members es rows c) c)
      (given_row xs gs start (members es rows c) c) given
      (aggregates_agree gs (members es rows c) (bind_all xs c start) (bind_all xs c start)
      (agree_self us (bind_all xs c start))) k)
      (groups_of xs es rows) out h

  -- ---- what they use, and that they fit

  pub aggregates_among : (gs : AggregateTrees) (zs : List Ident) → are_among (aggregate_uses gs) zs ≡ true
      → are_among (aggregate_uses (used_aggregates us gs)) zs ≡ true
  aggregates_among no_aggregates zs h = h
  aggregates_among (aggregate_then x name e rest) zs h =
      let k = among_split (maybe_uses e) (aggregate_uses rest) zs h in
      by (is_used x us) k.0 (aggregates_among rest zs k.1)
    where
      by : (b : Bool) → are_among (maybe_uses e) zs ≡ true
          → are_among (aggregate_uses (used_aggregates us rest)) zs ≡ true
          → are_among (aggregate_uses (cond b (aggregate_then x name e (used_aggregates us rest))
          (used_aggregates us rest))) zs ≡ true
      by true k l = among_join (maybe_uses e) (aggregate_uses (used_aggregates us rest)) zs k l
      by false k l = l

  pub into_among : (i : IntoTree) (zs : List Ident) → are_among (into_uses i) zs ≡ true
      → are_among (into_uses (used_into us i)) zs ≡ true
  into_among no_into zs h = h
  into_among (into x what keep) zs h = by (is_used x us)
    where
      by : (b : Bool) → are_among (into_uses (cond b (into x what keep) no_into)) zs ≡ true
      by true = h
      by false = refl

  pub still_known : (gs : AggregateTrees) → AllKnown gs → AllKnown (used_aggregates us gs)
  still_known no_aggregates h = h
  still_known (aggregate_then x name e rest) h = by (is_used x us) (still_known rest h.1)
    where
      by : (b : Bool) → AllKnown (used_aggregates us rest)
          → AllKnown (cond b (aggregate_then x name e (used_aggregates us rest)) (used_aggregates us rest))
      by true k = (h.0, k)
      by false k = k

  pub still_plain : (i : IntoTree) → IntoPlain i → IntoPlain (used_into us i)
  still_plain no_into h = h
  still_plain (into x what keep) h = by (is_used x us)
    where
      by : (b : Bool) → IntoPlain (cond b (into x what keep) no_into)
      by true = h
      by false = tt

  -- ---- which variables they set

  other_than : (x z : Ident) → is_used x us ≡ false → is_used z us ≡ true → same_ident z x ≡ false
  other_than x z h g = by (same_ident z x) refl
    where
      by : (b : Bool) → same_ident z x ≡ b → b ≡ false
      by false e = refl
      by true e =
          absurd (true≢false (sym (subst (λ (y : Ident). is_used y us ≡ true) (same_is z x e) g) ∙ h))

  aggregates_there : (gs : AggregateTrees) (z : Ident) → is_used z us ≡ true
      → has z (aggregate_vars gs) ≡ true → has z (aggregate_vars (used_aggregates us gs)) ≡ true
  aggregates_there no_aggregates z g h = h
  aggregates_there (aggregate_then x name e rest) z g h =
      by (is_used x us) refl (same_ident z x) refl h (aggregates_there rest z g)
    where
      by : (b : Bool) → is_used x us ≡ b → (s : Bool) → same_ident z x ≡ s
          → (s || has z (aggregate_vars rest)) ≡ true
          → (has z (aggregate_vars rest) ≡ true → has z (aggregate_vars (used_aggregates us rest)) ≡ true)
          → has z (aggregate_vars (cond b (aggregate_then x name e (used_aggregates us rest))
          (used_aggregates us rest))) ≡ true
      by true k true m h f = ap (λ s. s || has z (aggregate_vars (used_aggregates us rest))) m
      by true k false m h f =
          ap (λ s. s || has z (aggregate_vars (used_aggregates us rest))) m ∙ f h
      by false k true m h f = absurd (true≢false (sym m ∙ other_than x z k g))
      by false k false m h f = f h

  into_there : (i : IntoTree) (z : Ident) → is_used z us ≡ true → has z (option_to_list (into_var i)) ≡ true
      → has z (option_to_list (into_var (used_into us i))) ≡ true
  into_there no_into z g h = h
  into_there (into x what keep) z g h = by (is_used x us) refl (same_ident z x) refl h
    where
      by : (b : Bool) → is_used x us ≡ b → (s : Bool) → same_ident z x ≡ s → (s || false) ≡ true
          → has z (option_to_list (into_var (cond b (into x what keep) no_into))) ≡ true
      by true k true m h = ap (λ s. s || false) m
      by true k false m h = absurd (true≢false (sym h))
      by false k true m h = absurd (true≢false (sym m ∙ other_than x z k g))
      by false k false m h = absurd (true≢false (sym h))

  pub own_there : (gs : AggregateTrees) (i : IntoTree) (z : Ident) → is_used z us ≡ true
      → has z (own_vars gs i) ≡ true → has z (own_vars (used_aggregates us gs) (used_into us i)) ≡ true
  own_there gs i z g h =
      let ys = aggregate_vars (used_aggregates us gs) in
      let zs = option_to_list (into_var (used_into us i)) in
      has_either z (aggregate_vars gs) (option_to_list (into_var i)) h
      (λ k. has_front z ys zs (aggregates_there gs z g k))
      (λ k. has_back z ys zs (into_there i z g k))

  aggregates_fewer : (gs : AggregateTrees) (z : Ident)
      → count z (aggregate_vars (used_aggregates us gs)) ≤ count z (aggregate_vars gs)
  aggregates_fewer no_aggregates z = omega arith
  aggregates_fewer (aggregate_then x name e rest) z =
      by (is_used x us) (same_ident z x) refl (aggregates_fewer rest z)
    where
      by : (b s : Bool) → same_ident z x ≡ s
          → count z (aggregate_vars (used_aggregates us rest)) ≤ count z (aggregate_vars rest)
          → count z (aggregate_vars (cond b (aggregate_then x name e (used_aggregates us rest))
          (used_aggregates us rest)))
          ≤ cond s (suc (count z (aggregate_vars rest))) (count z (aggregate_vars rest))
      by true s m h = subst (λ (t : Bool).
          cond t (suc (count z (aggregate_vars (used_aggregates us rest))))
          (count z (aggregate_vars (used_aggregates us rest)))
          ≤ cond s (suc (count z (aggregate_vars rest))) (count z (aggregate_vars rest))) (sym m) (both s h)
        where
          both : (s : Bool)
              → count z (aggregate_vars (used_aggregates us rest)) ≤ count z (aggregate_vars rest)
              → cond s (suc (count z (aggregate_vars (used_aggregates us rest))))
              (count z (aggregate_vars (used_aggregates us rest)))
              ≤ cond s (suc (count z (aggregate_vars rest))) (count z (aggregate_vars rest))
          both true h = omega (arith, h)
          both false h = h
      by false true m h = omega (arith, h)
      by false false m h = h

  into_fewer : (i : IntoTree) (z : Ident)
      → count z (option_to_list (into_var (used_into us i))) ≤ count z (option_to_list (into_var i))
  into_fewer no_into z = omega arith
  into_fewer (into x what keep) z = by (is_used x us)
    where
      by : (b : Bool) → count z (option_to_list (into_var (cond b (into x what keep) no_into)))
          ≤ count z (x ∷ [])
      by true = omega arith
      by false = omega arith

  pub own_fewer : (gs : AggregateTrees) (i : IntoTree) (z : Ident)
      → count z (own_vars (used_aggregates us gs) (used_into us i)) ≤ count z (own_vars gs i)
  own_fewer gs i z = omega (
    arith,
    count_append z (aggregate_vars gs) (option_to_list (into_var i)),
    count_append z (aggregate_vars (used_aggregates us gs)) (option_to_list (into_var (used_into us i))),
    aggregates_fewer gs z,
    into_fewer i z,
  )

  -- ---- how many go

  length_joined : (xs ys : List Ident) → length (xs ++ ys) ≡ length xs + length ys
  length_joined [] ys = omega arith
  length_joined (x ∷ xs) ys = omega (arith, length_joined xs ys)

  shorter : (gs : AggregateTrees)
      → length (aggregate_vars (used_aggregates us gs)) ≤ length (aggregate_vars gs)
  shorter no_aggregates = omega arith
  shorter (aggregate_then x name e rest) = by (is_used x us) (shorter rest)
    where
      by : (b : Bool) → length (aggregate_vars (used_aggregates us rest)) ≤ length (aggregate_vars rest)
          → length (aggregate_vars (cond b (aggregate_then x name e (used_aggregates us rest))
          (used_aggregates us rest))) ≤ suc (length (aggregate_vars rest))
      by true h = omega (arith, h)
      by false h = omega (arith, h)

  no_longer : (i : IntoTree)
      → length (option_to_list (into_var (used_into us i))) ≤ length (option_to_list (into_var i))
  no_longer no_into = omega arith
  no_longer (into x what keep) = by (is_used x us)
    where
      by : (b : Bool) → length (option_to_list (into_var (cond b (into x what keep) no_into))) ≤ 1
      by true = omega arith
      by false = omega arith

  some_into : (i : IntoTree) → all_used us (option_to_list (into_var i)) ≡ false
      → length (option_to_list (into_var (used_into us i))) < length (option_to_list (into_var i))
  some_into no_into h = absurd (true≢false h)
  some_into (into x what keep) h = by (is_used x us) h
    where
      by : (b : Bool) → (b && true) ≡ false
          → length (option_to_list (into_var (cond b (into x what keep) no_into))) < 1
      by true h = absurd (true≢false h)
      by false h = omega arith

  pub fewer_own : (gs : AggregateTrees) (i : IntoTree) → all_used us (own_vars gs i) ≡ false
      → length (own_vars (used_aggregates us gs) (used_into us i)) < length (own_vars gs i)
  fewer_own no_aggregates i h = some_into i h
  fewer_own (aggregate_then x name e rest) i h = by (is_used x us) h (fewer_own rest i)
    where
      by : (b : Bool) → (b && all_used us (own_vars rest i)) ≡ false
          → (all_used us (own_vars rest i) ≡ false
          → length (own_vars (used_aggregates us rest) (used_into us i)) < length (own_vars rest i))
          → length (own_vars (cond b (aggregate_then x name e (used_aggregates us rest))
          (used_aggregates us rest)) (used_into us i)) < suc (length (own_vars rest i))
      by true h f = omega (arith, f h)
      by false h f = omega (
        arith,
        length_joined (aggregate_vars rest) (option_to_list (into_var i)),
        length_joined (aggregate_vars (used_aggregates us rest)) (option_to_list (into_var (used_into us i))),
        shorter rest,
        no_longer i,
      )
