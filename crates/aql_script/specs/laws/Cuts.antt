-- Pieces cut off one by one are the pieces of the whole, and the lines of a script are read off it in turn.
use Rattle.std.proofs.Common.{◌≡◌, ◌<◌, ◌≤◌, ℕ, suc, zero, ◌+◌, List, [], ◌∷◌, ◌++◌, true, false, Option, Some, None, Err, refl, sym, ap, ◌∙◌, subst, arith, length, take, drop, get_or, option_map, nat_eq, if◌then◌else◌, length-append}
use Rattle.std.specs.Prelude.{Result, ◌==◌}
use Rattle.std.specs.List.{onto_first, join_with_byte}
use Rattle.std.specs.Str.Lines.{strip_carriage_return}
use Rattle.std.proofs.lemmas.List.Splits.{join_with_byte-slice_split}
use Rattle.std.proofs.lemmas.Bool.{false_from_ne_true}
use Rattle.std.proofs.lemmas.Bool.Decides.{Decides-eqb}
use Rattle.aql_doc.specs.Held.{Held}
use Rattle.aql_script.specs.Pieces.{cut_at, pieces}
use Rattle.aql_script.specs.Lines.{LineEffect, after, last, read}
use Rattle.aql_script.specs.declared.loading.Loaded.{Loaded}
use Rattle.aql_script.specs.declared.faults.LoadFault.{LoadFault}
use Rattle.aql_script.specs.declared.faults.LoadFault.TheVariants.{Line}
use Rattle.aql_script.specs.declared.faults.LineKind.TheVariants.{NoQuery}

-- the first place of a byte, and no place
pub cut_here : (c : ℕ) (bytes : List ℕ) (at : ℕ) → at < length bytes
    → ((k : ℕ) → k < at → (get_or bytes k 0 == c) ≡ true → ⊥) → (get_or bytes at 0 == c) ≡ true
    → Some (take at bytes, drop (at + 1) bytes) ≡ cut_at c bytes
cut_here c [] at l h e = absurd (omega (arith, l))
cut_here c (b ∷ bytes) zero l h e = rw e refl
cut_here c (b ∷ bytes) (suc at) l h e =
    let off : (b == c) ≡ false = false_from_ne_true _ (h 0 (omega arith)) in
    let within : at < length bytes = omega arith in
    let next : suc at + 1 ≡ suc (at + 1) = omega arith in
    rw (off, next)
    (ap (option_map (λ p. (b ∷ p.0, p.1))) (cut_here c bytes at within (λ k m. h (suc k) (omega arith)) e))

pub cut_none : (c : ℕ) (bytes : List ℕ) → ((k : ℕ) → k < length bytes → (get_or bytes k 0 == c) ≡ true → ⊥)
    → None ≡ cut_at c bytes
cut_none c [] h = refl
cut_none c (b ∷ bytes) h =
    let off : (b == c) ≡ false = false_from_ne_true _ (h 0 (omega arith)) in
    rw off (ap (option_map (λ p. (b ∷ p.0, p.1))) (cut_none c bytes (λ k m. h (suc k) (omega arith))))

-- what a cut says of the bytes
Cuts : ℕ → List ℕ → Option (List ℕ × List ℕ) → Type 0
Cuts c bytes None = pieces c bytes ≡ bytes ∷ []
Cuts c bytes (Some p) = (pieces c bytes ≡ p.0 ∷ pieces c p.1) × (bytes ≡ p.0 ++ c ∷ p.1)

onto_cut : (c b : ℕ) (bytes : List ℕ) (o : Option (List ℕ × List ℕ)) → nat_eq b c ≡ false → Cuts c bytes o
    → Cuts c (b ∷ bytes) (option_map (λ p. (b ∷ p.0, p.1)) o)
unfolding Cuts
onto_cut c b bytes None off h = rw off (ap (onto_first b) h)
onto_cut c b bytes (Some p) off h = (rw off (ap (onto_first b) h.0), ap (λ xs. b ∷ xs) h.1)

cuts : (c : ℕ) (bytes : List ℕ) → Cuts c bytes (cut_at c bytes)
unfolding Cuts
cuts c [] = refl
cuts c (b ∷ bytes) =
    elim (nat_eq b c)
    as (λ t. nat_eq b c ≡ t
    → Cuts c (b ∷ bytes)
    (if t then Some ([], bytes) else option_map (λ p. (b ∷ p.0, p.1)) (cut_at c bytes))) [
      | true ↦ λ e. (rw e refl, ap (λ d. d ∷ bytes) ((Decides-eqb b c).0 e))
      | false ↦ λ e. onto_cut c b bytes (cut_at c bytes) e (cuts c bytes)
    ] refl

pub cut_gives : (c : ℕ) (bytes l r : List ℕ) → Some (l, r) ≡ cut_at c bytes
    → (pieces c bytes ≡ l ∷ pieces c r) × (bytes ≡ l ++ c ∷ r)
unfolding Cuts
cut_gives c bytes l r e = subst (Cuts c bytes) (sym e) (cuts c bytes)

pub cut_none_gives : (c : ℕ) (bytes : List ℕ) → None ≡ cut_at c bytes → pieces c bytes ≡ bytes ∷ []
unfolding Cuts
cut_none_gives c bytes e = subst (Cuts c bytes) (sym e) (cuts c bytes)

pub cut_length : (c : ℕ) (bytes l r : List ℕ) → Some (l, r) ≡ cut_at c bytes
    → length bytes ≡ length l + (length r + 1)
cut_length c bytes l r e =
    let d = ap length (cut_gives c bytes l r e).1 in
    let f : length (l ++ c ∷ r) ≡ length l + length (c ∷ r) = length-append l (c ∷ r) in omega (arith, d, f)

-- pieces are one at least
record Shape (ls : List (List ℕ)) : Type 0 where
  first : List ℕ
  others : List (List ℕ)
  is : ls ≡ first ∷ others

onto_shape : (b : ℕ) (ls : List (List ℕ)) → Shape (onto_first b ls)
onto_shape b [] = record { first = b ∷ []; others = []; is = refl }
onto_shape b (l ∷ ls) = record { first = b ∷ l; others = ls; is = refl }

shape : (c : ℕ) (bytes : List ℕ) → Shape (pieces c bytes)
shape c [] = record { first = []; others = []; is = refl }
shape c (b ∷ bytes) =
    elim (nat_eq b c) as (λ t. Shape (if t then [] ∷ pieces c bytes else onto_first b (pieces c bytes))) [
      | true ↦ record { first = []; others = pieces c bytes; is = refl }
      | false ↦ onto_shape b (pieces c bytes)
    ]

pub one_piece : (c : ℕ) (bytes : List ℕ) → 1 ≤ length (pieces c bytes)
one_piece c bytes = let e = ap length (shape c bytes).is in omega (arith, e)

module _ (step : ℕ → List Held → List ℕ → LineEffect) where
  -- a line that a line feed ends
  read_line : (n : ℕ) (held : List Held) (l r : List ℕ)
      → read step n held (l ∷ pieces 10 r)
      ≡ after (n + 1) (step (n + 1) held (strip_carriage_return l)) held
      (λ more. read step (n + 1) more (pieces 10 r)) r
  read_line n held l r =
      let s = shape 10 r in
      let did = step (n + 1) held (strip_carriage_return l) in
      ap (λ ls. read step n held (l ∷ ls)) s.is
      ∙ ap (λ ls. after (n + 1) did held (λ more. read step (n + 1) more ls) (join_with_byte 10 ls))
      (sym s.is)
      ∙ ap (λ text. after (n + 1) did held (λ more. read step (n + 1) more (pieces 10 r)) text)
      (join_with_byte-slice_split 10 r)

  -- what the next line does decides how the whole goes on
  pub goes : (n : ℕ) (held : List Held) (rest l r : List ℕ) (whole : Result Loaded LoadFault)
      (did : LineEffect)
      → Some (l, r) ≡ cut_at 10 rest → read step n held (pieces 10 rest) ≡ whole
      → step (n + 1) held (strip_carriage_return l) ≡ did
      → after (n + 1) did held (λ more. read step (n + 1) more (pieces 10 r)) r ≡ whole
  goes n held rest l r whole did c inv e =
      ap (λ d. after (n + 1) d held (λ more. read step (n + 1) more (pieces 10 r)) r) (sym e)
      ∙ sym (read_line n held l r) ∙ ap (read step n held) (sym (cut_gives 10 rest l r c).0) ∙ inv

  pub ends : (n : ℕ) (held : List Held) (rest : List ℕ) (whole : Result Loaded LoadFault)
      → None ≡ cut_at 10 rest
      → read step n held (pieces 10 rest) ≡ whole → last step n held rest ≡ whole
  ends n held rest whole c inv = ap (read step n held) (sym (cut_none_gives 10 rest c)) ∙ inv

  -- the last line, which no line feed ends
  pub last_line : (n : ℕ) (held : List Held) (l : List ℕ) (did : LineEffect) → 0 < length l
      → step (n + 1) held l ≡ did
      → last step n held l ≡ after (n + 1) did held (λ more. Err (Line (n + 1) NoQuery)) []
  last_line n held [] did h e = absurd (omega (arith, h))
  last_line n held (b ∷ l) did h e = ap (λ d. after (n + 1) d held (λ more. Err (Line (n + 1) NoQuery)) []) e

  pub no_line : (n : ℕ) (held : List Held) (l : List ℕ) → length l ≡ 0
      → last step n held l ≡ Err (Line n NoQuery)
  no_line n held [] h = refl
  no_line n held (b ∷ l) h = absurd (omega (arith, h))
