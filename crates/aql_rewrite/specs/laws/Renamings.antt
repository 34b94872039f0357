-- Renamings one after another go through what they are made of as one does.
use Rattle.std.proofs.Common.{◌≡◌, ◌∙◌, List, [], ◌∷◌, ◌++◌, map, refl, ap, ap₂, sym}
use Rattle.std.specs.Prelude.{Option, Some, None, option_to_list}
use Rattle.aql_plan.specs.Exprs.{map_plan, map_node}
use Rattle.aql_plan.specs.Plan.{Plan, Singleton, Over, Node}
use Rattle.aql_plan_laws.specs.laws.Mapped.{plan_same, node_same}
use Rattle.aql_rewrite.specs.declared.swap.Rename.{Rename}
use Rattle.aql_rewrite.specs.Places.{renamed_by}
use Rattle.aql_rewrite.specs.Renames.{each, renaming, put_each, renamed_by_each}
use Rattle.aql_rewrite.specs.laws.MappedTwice.{plan_twice, node_twice}

-- ---- what changes nothing, and what goes through a form

pub still : {A : Type 0} (f : Rename → A → A) (a : A) → ((r : Rename) → f r a ≡ a) → (rs : List Rename)
    → each f rs a ≡ a
still f a law [] = refl
still f a law (r ∷ rs) = ap (each f rs) (law r) ∙ still f a law rs

pub through : {A B : Type 0} (f : Rename → A → A) (g : Rename → B → B) (form : A → B)
    → ((r : Rename) (a : A) → g r (form a) ≡ form (f r a)) → (rs : List Rename) (a : A)
    → each g rs (form a) ≡ form (each f rs a)
through f g form law [] a = refl
through f g form law (r ∷ rs) a = ap (each g rs) (law r a) ∙ through f g form law rs (f r a)

pub through_two : {A B C : Type 0} (f : Rename → A → A) (g : Rename → B → B) (h : Rename → C → C)
    (form : A → B → C) → ((r : Rename) (a : A) (b : B) → h r (form a b) ≡ form (f r a) (g r b))
    → (rs : List Rename) (a : A) (b : B) → each h rs (form a b) ≡ form (each f rs a) (each g rs b)
through_two f g h form law [] a b = refl
through_two f g h form law (r ∷ rs) a b =
    ap (each h rs) (law r a b) ∙ through_two f g h form law rs (f r a) (g r b)

pub through_three : {A B C D : Type 0} (f : Rename → A → A) (g : Rename → B → B) (h : Rename → C → C)
    (k : Rename → D → D) (form : A → B → C → D)
    → ((r : Rename) (a : A) (b : B) (c : C) → k r (form a b c) ≡ form (f r a) (g r b) (h r c))
    → (rs : List Rename) (a : A) (b : B) (c : C)
    → each k rs (form a b c) ≡ form (each f rs a) (each g rs b) (each h rs c)
through_three f g h k form law [] a b c = refl
through_three f g h k form law (r ∷ rs) a b c =
    ap (each k rs) (law r a b c) ∙ through_three f g h k form law rs (f r a) (g r b) (h r c)

-- ---- one more renaming

pub each_more : {A : Type 0} (f : Rename → A → A) (rs : List Rename) (r : Rename) (a : A)
    → each f (rs ++ r ∷ []) a ≡ f r (each f rs a)
each_more f [] r a = refl
each_more f (q ∷ rs) r a = each_more f rs r (f q a)

pub by_each_more : (rs : List Rename) (r : Option Rename) (n : Node)
    → renamed_by_each (rs ++ option_to_list r) n ≡ renamed_by r (renamed_by_each rs n)
by_each_more [] None n = refl
by_each_more (q ∷ rs) None n = by_each_more rs None (renamed_by (Some q) n)
by_each_more rs (Some r) n = each_more (λ q m. renamed_by (Some q) m) rs r n

-- ---- a plan and a node

pub plan_each : (rs : List Rename) (p : Plan)
    → map_plan (put_each rs) p ≡ each (λ r o. map_plan (renaming r) o) rs p
plan_each [] p = plan_same p
plan_each (r ∷ rs) p = sym (plan_twice (renaming r) (put_each rs) p) ∙ plan_each rs (map_plan (renaming r) p)

pub node_each : (rs : List Rename) (n : Node) → map_node (put_each rs) n ≡ renamed_by_each rs n
node_each [] n = node_same n
node_each (r ∷ rs) n = sym (node_twice (renaming r) (put_each rs) n) ∙ node_each rs (map_node (renaming r) n)
