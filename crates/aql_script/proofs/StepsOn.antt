-- What a call on the catalog gives is what the line does.
use Rattle.std.proofs.Common.{◌≡◌, ◌<◌, ◌≤◌, ℕ, ◌-◌, List, Bool, true, false, Option, Some, None, Ok, Err, refl, sym, ap, ap₂, ◌∙◌, inl, inr, arith, length, option_map, nat_eq, nat_lt, if◌then◌else◌}
use Rattle.std.specs.Prelude.{Result, ◌⊎◌, is_some}
use Rattle.aql_value.specs.Datum.{Datum}
use Rattle.aql_value.specs.JsonLine.{json_line}
use Rattle.aql_value.specs.declared.reading.JsonFault.{JsonFault}
use Rattle.aql_value.specs.declared.reading.JsonFault.TheVariants.{Memory as JsonMemory}
use Rattle.aql_doc.specs.Held.{Held}
use Rattle.aql_doc.specs.Declarations.{collection_index, declare, add_index}
use Rattle.aql_doc.specs.Documents.{add}
use Rattle.aql_doc.specs.declared.faults.CatalogFault.{CatalogFault}
use Rattle.aql_doc.specs.declared.faults.CatalogFault.TheVariants.{Memory as CatalogMemory}
use Rattle.aql_doc.specs.declared.faults.DocFault.{DocFault}
use Rattle.aql_doc.specs.declared.faults.DocFault.TheVariants.{Memory as DocMemory}
use Rattle.aql_script.specs.Lines.{LineEffect, next, fault}
use Rattle.aql_script.specs.inner.Meets.{Refuses}
use Rattle.aql_script.specs.LineEffects.{declaration, declare_effect, declare_fault, index, index_at, index_effect, index_fault, document, with_value, document_effect, doc_fault, json_fault, shards_of, keys_of}
use Rattle.aql_script.specs.declared.options.Options.{Options}
use Rattle.aql_script.specs.declared.faults.LoadFault.{LoadFault}
use Rattle.aql_script.specs.declared.faults.LoadFault.TheVariants.{Limit, Line, Memory}
use Rattle.aql_script.specs.declared.faults.LimitKind.TheVariants.{Shards}
use Rattle.aql_script.specs.declared.faults.LineKind.TheVariants.{DeclaredTwice, UnknownCollection, NoCollection}

-- want of memory stays want of memory, and a fault becomes the fault of the line
passed : {E : Type 0} → (memory e : E) (to : E → LoadFault) (P : Type 0) (wanted : LineEffect)
    → to memory ≡ Memory
    → (P → wanted ≡ fault (to e)) → (e ≡ memory) ⊎ P → Refuses (to e) wanted
passed memory e to P wanted m f (inl h) = inl (ap to h ∙ m)
passed memory e to P wanted m f (inr h) = inr (f h)

picked : {A : Type 0} → (a b : Bool) (x y z : A) → a ≡ false → b ≡ false
    → (if a then x else (if b then y else z)) ≡ z
picked a b x y z e f = rw (e, f) refl

-- a collection is found exactly where its name has a place
pub found : {A : Type 0} → (o : Option A) (f : A → ℕ) (place : Option ℕ) (some known : Bool)
    → option_map f o ≡ place → some ≡ is_some o → some ≡ known → is_some place ≡ known
found None f place some known e g h = ap is_some (sym e) ∙ sym g ∙ h
found (Some x) f place some known e g h = ap is_some (sym e) ∙ sym g ∙ h

module _ (n : ℕ) (held : List Held) (edge : Bool) (name : List ℕ) (options : Options) where
  pub declared_twice : is_some (collection_index held name) ≡ true
      → declaration n held edge name options ≡ fault (Line n DeclaredTwice)
  unfolding declaration
  declared_twice e = rw e refl

  pub many_shards : is_some (collection_index held name) ≡ false → 32 < shards_of options
      → declaration n held edge name options ≡ fault (Limit (Shards n))
  unfolding declaration
  many_shards e h = let t : nat_lt 32 (shards_of options) ≡ true = grind (arith, h) in rw (e, t) refl

  declared_as : (shards : ℕ) (keys : List (List ℕ)) (r : Result (List Held) CatalogFault)
      → is_some (collection_index held name) ≡ false → shards ≤ 32 → shards ≡ shards_of options
      → keys ≡ keys_of options
      → declare held name edge shards keys ≡ r → declaration n held edge name options ≡ declare_effect n r
  unfolding declaration
  declared_as shards keys r e h s k d =
      let few : nat_lt 32 (shards_of options) ≡ false = grind (arith, h, s) in
      picked _ _ _ _ _ e few ∙ ap (declare_effect n) (sym (ap₂ (λ x y. declare held name edge x y) s k) ∙ d)

  pub declares : (shards : ℕ) (keys : List (List ℕ)) (more : List Held)
      → is_some (collection_index held name) ≡ false
      → shards ≤ 32 → shards ≡ shards_of options → keys ≡ keys_of options
      → declare held name edge shards keys ≡ Ok more → declaration n held edge name options ≡ next more
  declares shards keys more = declared_as shards keys (Ok more)

  pub not_declared : (shards : ℕ) (keys : List (List ℕ)) (e : CatalogFault)
      → is_some (collection_index held name) ≡ false
      → shards ≤ 32 → shards ≡ shards_of options → keys ≡ keys_of options
      → (e ≡ CatalogMemory) ⊎ (declare held name edge shards keys ≡ Err e)
      → Refuses (declare_fault n e) (declaration n held edge name options)
  not_declared shards keys e p h s k =
      passed CatalogMemory e (declare_fault n) (declare held name edge shards keys ≡ Err e)
      (declaration n held edge name options) refl (declared_as shards keys (Err e) p h s k)

module _ (n : ℕ) (held : List Held) (name : List ℕ) (attributes : List (List ℕ)) where
  pub unknown : None ≡ collection_index held name
      → index n held name attributes ≡ fault (Line n UnknownCollection)
  unfolding index
  unknown e = ap (index_at n held attributes) (sym e)

  indexed_as : (number : ℕ) (r : Result (List Held) CatalogFault) → Some number ≡ collection_index held name
      → add_index held number attributes ≡ r → index n held name attributes ≡ index_effect n r
  unfolding index
  indexed_as number r e d = ap (index_at n held attributes) (sym e) ∙ ap (index_effect n) d

  pub indexes : (number : ℕ) (more : List Held) → Some number ≡ collection_index held name
      → add_index held number attributes ≡ Ok more → index n held name attributes ≡ next more
  indexes number more = indexed_as number (Ok more)

  pub not_indexed : (number : ℕ) (e : CatalogFault) → Some number ≡ collection_index held name
      → (e ≡ CatalogMemory) ⊎ (add_index held number attributes ≡ Err e)
      → Refuses (index_fault n e) (index n held name attributes)
  not_indexed number e p =
      passed CatalogMemory e (index_fault n) (add_index held number attributes ≡ Err e)
      (index n held name attributes) refl (indexed_as number (Err e) p)

module _ (n : ℕ) (held : List Held) (line : List ℕ) where
  pub no_collection : length held ≡ 0 → document n held line ≡ fault (Line n NoCollection)
  unfolding document
  no_collection e = rw e refl

  document_as : (r : Result Datum JsonFault) → 0 < length held → json_line line ≡ r
      → document n held line ≡ with_value n held r
  unfolding document
  document_as r h j =
      let some : nat_eq (length held) 0 ≡ false = grind (arith, h) in
      rw some (ap (with_value n held) j)

  pub not_json : (e : JsonFault) → 0 < length held → (e ≡ JsonMemory) ⊎ (json_line line ≡ Err e)
      → Refuses (json_fault n e) (document n held line)
  not_json e h =
      passed JsonMemory e (json_fault n) (json_line line ≡ Err e) (document n held line) refl
      (document_as (Err e) h)

  pub adds : (value : Datum) (number : ℕ) (more : List Held) → 0 < length held → json_line line ≡ Ok value
      → number ≡ length held - 1 → add held number value ≡ Ok more → document n held line ≡ next more
  adds value number more h j p a =
      document_as (Ok value) h j ∙ ap (document_effect n) (ap (λ i. add held i value) (sym p) ∙ a)

  pub not_added : (value : Datum) (number : ℕ) (e : DocFault) → 0 < length held → json_line line ≡ Ok value
      → number ≡ length held - 1 → (e ≡ DocMemory) ⊎ (add held number value ≡ Err e)
      → Refuses (doc_fault n e) (document n held line)
  not_added value number e h j p =
      passed DocMemory e (doc_fault n) (add held number value ≡ Err e) (document n held line) refl
      (λ a. document_as (Ok value) h j ∙ ap (document_effect n) (ap (λ i. add held i value) (sym p) ∙ a))
