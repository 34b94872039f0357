-- A Gather over its fragments, after a message came to one of them.
use Rattle.std.proofs.Common.{ℕ, ◌≡◌, ◌+◌, ◌<◌, ◌≤◌, ◌⊎◌, inl, inr, List, [], length, true, Some, refl, sym, ◌∙◌, subst, arith}
use Rattle.std.specs.Prelude.{slice_get, slice_set, slice_index_or}
use Rattle.std.proofs.lemmas.Option.{slice_get_read, slice_get_within}
use Rattle.aql_block.specs.declared.calls.Call.{Call}
use Rattle.aql_exec.specs.declared.turns.Message.{Message}
use Rattle.aql_exec.specs.declared.feed.Executor.{Ghosts}
use Rattle.aql_exec.specs.declared.feed.Feed
use Rattle.aql_exec.specs.declared.surroundings.Surroundings
use Rattle.aql_exec.specs.Links.{Taken}
use Rattle.aql_exec.specs.Rests.{Counts, Exact, Within, Rest, Prefixed, IsOver, Ends}
use Rattle.aql_exec.specs.Promises.{Beside}
use Rattle.aql_exec.specs.Operators.{exact_tree}
use Rattle.aql_exec.specs.laws.Counted.{prefixed_weaker}
use Rattle.aql_engine.specs.laws.Exactness.{over_weaker}
use Rattle.aql_engine.specs.laws.TreesKept.{KeptGives, KeptValid, KeptBudget}
use Rattle.aql_exec_fragments.specs.Feeds.{no_body, RestsAt, SameFeeds, exact_over, GatheredRests, InputIs, Gathering, gathered_budget}
use Rattle.aql_exec_fragments.specs.laws.Places.{same_at, put_here, others_stay, at_set, total_fell}
use Rattle.aql_exec_fragments.specs.laws.Kept.{IsLater, NoLinks, KeepsRests, KeepsValid, KeepsBudget, LinksAreMade, exact_feed, feed_kept}
use Rattle.aql_exec_fragments.specs.laws.GatherNodes.{CountsMore}
use Rattle.aql_exec_fragments.proofs.Families.{put, put_same, put_other, put_holds}
use Rattle.aql_exec_fragments.proofs.Pulling.{apart_set, still_in}

-- what was read at a place where something stands
pub read_at : {A : Type 0} (xs : List A) (k : ℕ) (a b : A) → slice_get xs k ≡ Some a
    → b ≡ slice_index_or xs k b
    → slice_get xs k ≡ Some b
read_at xs k a b e r = slice_get_read xs (length xs) k b refl (slice_get_within xs k a e) r

-- a rest that leads to one that is over is over
over_back : (v : Exact) (d : Counts) (r b : Rest) → Prefixed v [] d r b → IsOver v b → IsOver v r
over_back v d r b a o = (
  sym a.rows ∙ o.0,
  λ c y. (let m = a.counts c in let n = o.1 c y in omega (arith, m, n)),
)

two_less : (a a' t t' u : ℕ) → a' ≤ a → t' + u ≤ t → a' + t' ≤ a + t
two_less a a' t t' u l m = omega (arith, l, m)

plus_zero : (a b : ℕ) → a ≤ b → a + 0 ≤ b
plus_zero a b l = omega (arith, l)

module _ {X F W : Type 0} (g : Ghosts X W) (h : Feed.Ghosts F W) (p : Surroundings.Ghosts W) where
  -- one of these feeds took a message in the world w, and its delivery led to w'
  pub record Reached (d : Counts) (x : X) (feeds : List F) (w : W) (feeds' : List F) (w' : W) : Type 0 where
    pub later : IsLater p w w'
    pub valid : Gathering g h p x feeds' w'
    pub rests : (r : Rest) → GatheredRests g h p x feeds' w' r
        → (b : Rest) × Prefixed (exact_over g h p x feeds) [] d r b × GatheredRests g h p x feeds w b
    pub budget : gathered_budget g h p x x feeds' w' ≤ gathered_budget g h p x x feeds w

  -- the message was taken off a link of f, which led from w to w1
  pub reached : KeptGives g p → KeptValid g p → KeptBudget g p → NoLinks g p → CountsMore g → KeepsRests h p
      → KeepsValid h p → KeepsBudget h p → LinksAreMade h p → (x : X) (feeds : List F) (k : ℕ) (f f' : F)
      (w w1 w' : W) (link : ℕ) (message : Message) (d : Counts) → slice_get feeds k ≡ Some f
      → SameFeeds h feeds (slice_set feeds k f') → Gathering g h p x feeds w → Taken p w w1 link message
      → h.ours f link → Beside p (h.ours f) w1 w' → h.valid f' w' → ((c : Call) → h.may f c → h.may f' c)
      → h.plan f' ≡ h.plan f
      → ((r : Rest) → h.rests f' w' r
      → (b : Rest) × Prefixed (exact_tree (h.plan f)) [] d r b × h.rests f w b)
      → ((l : ℕ) → h.ours f' l → h.ours f l ⊎ (p.links w1 ≤ l)) → h.budget f' w' ≤ h.budget f w
      → Reached d x feeds w (slice_set feeds k f') w'
  reached kg kv kb none more fr fv fb made x feeds k f f' w w1 w' link message d e same v taken own beside
      valid may plan rests ours budget =
      let feeds' = slice_set feeds k f' in
      let all = exact_over g h p x feeds in
      let one = exact_tree (h.plan f) in
      let within_one : Within all one = exact_feed g h p x feeds k f e in
      let later : IsLater p w w' = record {
        stock = beside.stock ∙ taken.stock_kept;
        batch = beside.batch ∙ taken.batch_kept;
        grows = subst (λ n. n ≤ p.links w') taken.links_kept beside.grows;
      } in
      let links : (j : ℕ) (b : F) → slice_get feeds j ≡ Some b → (l : ℕ) → h.ours b l → l < p.links w =
      λ j b m. made b w ((v.inputs j b m).input_valid refl) in
      let others : (j : ℕ) (b : F) → (j ≡ k → ⊥) → slice_get feeds j ≡ Some b → (l : ℕ) → h.ours b l
      → p.flight w' l ≡ p.flight w l =
      λ j b n m l o.
      beside.others l (subst (λ z. l < z) (sym taken.links_kept) (links j b m l o))
      (v.apart j k b f m e n l o)
      ∙ taken.others l (λ q. v.apart j k b f m e n l o (subst (h.ours f) (sym q) own)) in
      let mine : InputIs g h p x f' w' k = record {
        input_valid = λ b. valid;
        may_ask = λ b c a. may c ((v.inputs k f e).may_ask b c a);
        none_left = λ b i r z. (let q = rests r z in
            rw plan (over_back one d r q.0 q.1 ((v.inputs k f e).none_left b i q.0 q.2)));
        in_flight = λ a. absurd (v.none_waits k a);
      } in
      record {
        later = later;
        valid = record {
          executor_valid =
              kv x w w' later.stock later.batch later.grows (λ l a. absurd (none x l a)) v.executor_valid;
          begun = λ j l. v.begun j (still_in feeds k f' l);
          inputs = λ j b m. elim (at_set feeds k j f' b m) [
            | inl q ↦ subst (λ z. InputIs g h p x z w' j) q.1
                (subst (λ z. InputIs g h p x f' w' z) (sym q.0) mine)
            | inr q ↦ feed_kept g h p fr fv b w w' later (others j b q.0 q.1) (v.inputs j b q.1)
          ];
          none_unreported = v.none_unreported;
          none_waits = v.none_waits;
          apart = apart_set h feeds k f f' (p.links w) e v.apart
              (λ l o. elim (ours l o) [
                | inl q ↦ inl q
                | inr q ↦ inr (subst (λ n. n ≤ l) taken.links_kept q)
              ]) links;
        };
        rests = λ r z.
            (let lists = z.0 in
            let q = rests (lists k) (z.2 k f' (put_here feeds k f f' e)) in
            let old = put k q.0 lists in
            let here : Prefixed all [] d (lists k) (old k) =
            subst (λ y. Prefixed all [] d (lists k) y) (sym (put_same k q.0 lists))
            (prefixed_weaker [] d (lists k) q.0 within_one q.1) in
            let m = more all x w 0 no_body k d lists old r (v.begun k (slice_get_within feeds k f e)) here
            (λ j n. put_other k j q.0 lists n)
            (kg x w w' later.stock (λ l a. absurd (none x l a)) 0 no_body lists r z.3) in
            let ends : Ends all (g.ended x) old =
            put_holds (λ j y. g.ended x j ≡ true → IsOver all y) k q.0 lists
            (λ i. over_weaker all one q.0 within_one ((v.inputs k f e).none_left refl i q.0 q.2))
            (λ j n i. over_weaker all (exact_over g h p x feeds') (lists j)
            (λ c y. rw same.trees y) (z.1 j i)) in
            let each : (j : ℕ) → RestsAt h feeds w j (old j) =
            put_holds (RestsAt h feeds w) k q.0 lists
            (λ b m. subst (λ y. h.rests y w q.0) (same_at feeds k f b e m) q.2)
            (λ j n b m. fr b w w' later.stock (others j b n m) (lists j)
            (z.2 j b (others_stay feeds k j f' b n m))) in
            (m.0, m.1, (old, ends, each, m.2)));
        budget =
            two_less _ _ _ _ _ (kb x w w' later.stock (λ l a. absurd (none x l a)) 0)
            (total_fell (λ z. h.budget z w) (λ z. h.budget z w') (λ j. g.row_cost x j 0) feeds k f f' 0 e
            (plus_zero _ _ budget) (λ j b n m. fb b w w' later.stock (others j b n m)));
      }
