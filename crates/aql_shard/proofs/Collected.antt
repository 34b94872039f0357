-- A list that is made of another, item by item, and what is known of the indexes of a catalog.
use Rattle.std.proofs.Common.{◌≡◌, ◌∙◌, ℕ, zero, suc, ◌+◌, ◌<◌, ◌≤◌, ◌^◌, List, [], ◌∷◌, ◌++◌, map, length, take, true, false, get_or, min, append_assoc, Fits, w32, refl, ap, ap₂, sym, arith}
use Rattle.std.specs.Prelude.{Bool, All, Some, option_map, slice_get, unwrap_or}
use Rattle.std.specs.List.{AllByRecursion}
use Rattle.std.proofs.lemmas.List.Elements.{All-from_recursion, recursion_from_All}
use Rattle.aql_value.specs.Datum.{Datum}
use Rattle.aql_value.specs.laws.Alls.{all_append, all_mapped}
use Rattle.aql_doc.specs.declared.info.CollInfo.{CollInfo}
use Rattle.aql_doc.specs.Held.{Held, documents_in, documents_at}
use Rattle.aql_doc.specs.Limits.{IsDeclared, IsWithinLimits}
use Rattle.aql_meaning.specs.laws.Agrees.{map_same}
use Rattle.aql_plan.specs.declared.facts.CollFact.{CollFact}
use Rattle.aql_plan.specs.declared.facts.IndexFact.{IndexFact}
use Rattle.aql_plan.specs.Facts.{widest, widths_of, numbers_below}
use Rattle.aql_index.specs.Entries.{IndexView}
use Rattle.aql_index.specs.Groups.{widest_of}
use Rattle.aql_index.specs.IndexOrder.{index_entries, index_of}
use Rattle.aql_index.specs.laws.Widths.{widest_is_of_documents}
use Rattle.aql_shard.specs.declared.shapes.Shape.{Shape}
use Rattle.aql_shard.specs.Known.{sorted_by, lookups, shapes, index_fact, shard_count, coll_fact}
use Rattle.aql_shard.specs.Parts.{indexes_by}
use Rattle.aql_shard.specs.inner.Kept.{IsNarrow, widths_in, fact_by, facts_by}

-- ---- one item more

one_taken : {A B : Type 0} (f : A → B) (xs : List A) (i : ℕ) (y : B) → option_map f (slice_get xs i) ≡ Some y
    → map f (take (suc i) xs) ≡ map f (take i xs) ++ y ∷ []
one_taken f [] i y e = cc
one_taken f (x ∷ xs) zero y e = let same : f x ≡ y = cc in ap (λ z. z ∷ []) same
one_taken f (x ∷ xs) (suc i) y e = ap (λ ys. f x ∷ ys) (one_taken f xs i y e)

pub one_more : {A B : Type 0} (f : A → B) (front : List B) (xs : List A) (i : ℕ) (all new : List B) (y : B)
    → option_map f (slice_get xs i) ≡ Some y → all ≡ front ++ map f (take i xs) → new ≡ all ++ y ∷ []
    → new ≡ front ++ map f (take (i + 1) xs)
one_more f front xs i all new y e h k =
    let next : suc i ≡ i + 1 = omega arith in
    k ∙ ap (λ ys. ys ++ y ∷ []) h ∙ append_assoc front (map f (take i xs)) (y ∷ [])
    ∙ ap (λ ys. front ++ ys) (sym (one_taken f xs i y e) ∙ ap (λ (n : ℕ). map f (take n xs)) next)

-- ---- limits

few_at : (held : List Held) (coll : ℕ) → length (documents_at held coll) ≤ documents_in held
few_at [] coll = omega arith
few_at (h ∷ held) zero = omega arith
few_at (h ∷ held) (suc coll) = let rest = few_at held coll in omega (arith, rest)

pub few_there : (held : List Held) (coll : ℕ) → IsWithinLimits held
    → length (documents_at held coll) < 2 ^ 32
few_there held coll w =
    let here = few_at held coll in
    let most = w.documents in
    omega (arith, here, most)

pub few_held : (held : List Held) (coll : ℕ) (h : Held) → slice_get held coll ≡ Some h → IsWithinLimits held
    → length h.documents < 2 ^ 32
few_held held coll h e w =
    let same : documents_at held coll ≡ h.documents =
    ap (λ o. unwrap_or (option_map (λ (g : Held). g.documents) o) []) e in
    let here = few_there held coll w in
    omega (arith, ap length same, here)

-- a place among so many that 32 bits count them
pub place_fits : (place count : ℕ) → place < count → count < 2 ^ 32 → Fits w32 place
place_fits place count h few = omega (arith, h, few)

lookups_narrow : (edge : Bool) → AllByRecursion IsNarrow (lookups edge)
lookups_narrow false = (omega arith, (omega arith, tt))
lookups_narrow true = (omega arith, (omega arith, (omega arith, (omega arith, tt))))

pub all_narrow : (info : CollInfo) → IsDeclared info → All IsNarrow (shapes info)
all_narrow info d = All-from_recursion IsNarrow (shapes info)
    (all_append IsNarrow (lookups info.edge) (map sorted_by info.indexes) (lookups_narrow info.edge)
    (all_mapped IsNarrow sorted_by info.indexes
    (recursion_from_All (λ (names : List (List ℕ)). length names ≤ 8) info.indexes
    (λ k e l. (d.attributes k e l).1))))

-- ---- what an index says of its documents is what is known of it

widths_are : (names : List (List ℕ)) (documents : List Datum)
    → widths_in (length names) (index_of names documents) ≡ widths_of names documents
widths_are names documents = map_same (λ width. widest_of width (index_entries names documents))
    (λ width. widest (take width names) documents)
    (λ width. widest_is_of_documents names documents width) (numbers_below (length names + 1))

pub facts_are : (documents : List Datum) (all : List Shape)
    → facts_by all (indexes_by all documents) ≡ map (index_fact documents) all
facts_are documents [] = refl
facts_are documents (s ∷ all) = ap₂ (λ (f : IndexFact) fs. f ∷ fs)
    (ap (λ ws. let f : IndexFact = record { kind = s.kind; attributes = s.attributes; widths = ws } in f)
    (widths_are s.attributes documents))
    (facts_are documents all)

-- ---- and index by index

pair_taken : (ss : List Shape) (vs : List IndexView) (i : ℕ) (s : Shape) (v : IndexView) → i < length ss
    → i < length vs → s ≡ get_or ss i s → v ≡ get_or vs i v
    → facts_by (take (suc i) ss) (take (suc i) vs) ≡ facts_by (take i ss) (take i vs) ++ fact_by s v ∷ []
pair_taken [] vs i s v l m e f = absurd (omega (arith, l))
pair_taken (t ∷ ss) [] i s v l m e f = absurd (omega (arith, m))
pair_taken (t ∷ ss) (u ∷ vs) zero s v l m e f = ap₂ (λ a b. fact_by a b ∷ []) (sym e) (sym f)
pair_taken (t ∷ ss) (u ∷ vs) (suc i) s v l m e f = ap (λ fs. fact_by t u ∷ fs)
    (pair_taken ss vs i s v (omega (arith, l)) (omega (arith, m)) e f)

pub pair_more : (ss : List Shape) (vs : List IndexView) (i j : ℕ) (s : Shape) (v : IndexView)
    (all new : List IndexFact) (fact : IndexFact) → i < length ss → i < length vs → s ≡ get_or ss i s
    → v ≡ get_or vs i v → j ≡ i + 1 → fact ≡ fact_by s v → all ≡ facts_by (take i ss) (take i vs)
    → new ≡ all ++ fact ∷ [] → new ≡ facts_by (take j ss) (take j vs)
pair_more ss vs i j s v all new fact l m e f next is h k =
    let same : suc i ≡ j = omega (arith, next) in
    k ∙ ap₂ (λ (fs : List IndexFact) g. fs ++ g ∷ []) h is ∙ sym (pair_taken ss vs i s v l m e f)
    ∙ ap (λ (n : ℕ). facts_by (take n ss) (take n vs)) same

pub pairs_taken : (ss : List Shape) (vs : List IndexView) (n : ℕ) → n ≡ min (length ss) (length vs)
    → facts_by (take n ss) (take n vs) ≡ facts_by ss vs
pairs_taken [] vs zero e = refl
pairs_taken [] vs (suc n) e = absurd (omega (arith, e))
pairs_taken (s ∷ ss) [] zero e = refl
pairs_taken (s ∷ ss) [] (suc n) e = absurd (omega (arith, e))
pairs_taken (s ∷ ss) (v ∷ vs) zero e = absurd (omega (arith, e))
pairs_taken (s ∷ ss) (v ∷ vs) (suc n) e =
    ap (λ fs. fact_by s v ∷ fs) (pairs_taken ss vs n (omega (arith, e)))

-- ---- a collection

pub one_counted : (servers : ℕ) (info : CollInfo) (n : ℕ) → servers ≡ 0 → n ≡ 1
    → n ≡ shard_count servers info
one_counted servers info n here e = e ∙ ap (λ s. shard_count s info) (sym here)

pub all_counted : (servers : ℕ) (info : CollInfo) (n : ℕ) → (servers ≡ 0 → ⊥) → n ≡ info.shards
    → n ≡ shard_count servers info
all_counted zero info n some e = absurd (some refl)
all_counted (suc servers) info n some e = e

pub fact_is : (servers : ℕ) (h : Held) (name : List ℕ) (documents shards : ℕ) (keys : List (List ℕ))
    (facts : List IndexFact) → name ≡ h.info.name → documents ≡ length h.documents
    → shards ≡ shard_count servers h.info → keys ≡ h.info.keys
    → facts ≡ map (index_fact h.documents) (shapes h.info)
    → ◌≡◌ {A = CollFact} (record {
      name = name;
      edge = h.info.edge;
      documents = documents;
      shards = shards;
      keys = keys;
      indexes = facts;
    }) (coll_fact servers h)
fact_is servers h name documents shards keys facts n d s k f = λ i. record {
  name = n i;
  edge = h.info.edge;
  documents = d i;
  shards = s i;
  keys = k i;
  indexes = f i;
}
