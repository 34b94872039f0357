-- Separators: at most one stands at a place.
use Rattle.std.proofs.Common.{◌≡◌, ℕ, true, List, ◌∷◌, ◌++◌, length}
use Rattle.std.proofs.Common.{refl, sym, ap, ◌∙◌, arith, length-append}
use Rattle.aql_lex.specs.declared.kinds.TokenKind.{TokenKind}
use Rattle.aql_lex.specs.declared.faults.LexKind.{LexKind}
use Rattle.aql_lex.specs.Characters.{line_feed, star, slash, is_blank}
use Rattle.aql_lex.specs.Tokens.{ClosesFirst, Separates, IsToken}
use Rattle.aql_lex.specs.Faults.{Breaks, Faults}
use Rattle.aql_lex.specs.Reading.{NoFault}
use Rattle.aql_lex.specs.laws.Runs.{one_split, no_split, one_end}
use Rattle.aql_lex.specs.laws.Classes.{class, class-blank, class-slash}

pub not_star : slash ≡ star → ⊥
not_star e = absurd (omega arith)

pub blank_apart : (b : ℕ) → is_blank b ≡ true → b ≡ slash → ⊥
blank_apart b h e = let one = class-blank b h in let two = class-slash in let same = ap class e in absurd (cc)

one_close : (text same words others rest more : List ℕ) → text ≡ same → ClosesFirst text words rest
    → ClosesFirst same others more → rest ≡ more
one_close text same words others rest more e a b =
    let splits = sym a.closes ∙ e ∙ b.closes in
    let up = a.first others more (e ∙ b.closes) in
    let down = b.first words rest (sym e ∙ a.closes) in
    let long = ap length splits in
    let sum = length-append words (star ∷ slash ∷ rest) in
    let total = length-append others (star ∷ slash ∷ more) in
    let ends : star ∷ slash ∷ rest ≡ star ∷ slash ∷ more =
    (one_end words others (star ∷ slash ∷ rest) (star ∷ slash ∷ more) splits (omega arith)).1 in
    cc

pub one_separator : (text same rest more : List ℕ) → text ≡ same → Separates text rest → Separates same more
    → rest ≡ more
one_separator text same rest more e (Separates.blank h) (Separates.blank g) = cc
one_separator text same rest more e (Separates.blank {b = b} h) (Separates.line words none) =
    let at : b ≡ slash = cc in absurd (blank_apart b h at)
one_separator text same rest more e (Separates.blank {b = b} h) (Separates.last_line words none) =
    let at : b ≡ slash = cc in absurd (blank_apart b h at)
one_separator text same rest more e (Separates.blank {b = b} h) (Separates.block closes) =
    let at : b ≡ slash = cc in absurd (blank_apart b h at)
one_separator text same rest more e (Separates.line words none) (Separates.blank {b = b} h) =
    let at : b ≡ slash = cc in absurd (blank_apart b h at)
one_separator text same rest more e (Separates.line words {rest = r} none)
    (Separates.line others {rest = s} free) =
    let after : words ++ line_feed ∷ r ≡ others ++ line_feed ∷ s = cc in
    (one_split line_feed words others r s after none free).1
one_separator text same rest more e (Separates.line words {rest = r} none) (Separates.last_line others free) =
    let after : others ≡ words ++ line_feed ∷ r = cc in absurd (no_split line_feed others words r after free)
one_separator text same rest more e (Separates.line words none) (Separates.block closes) =
    let at : slash ≡ star = cc in absurd (not_star at)
one_separator text same rest more e (Separates.last_line words none) (Separates.blank {b = b} h) =
    let at : b ≡ slash = cc in absurd (blank_apart b h at)
one_separator text same rest more e (Separates.last_line words none) (Separates.line others {rest = s} free) =
    let after : words ≡ others ++ line_feed ∷ s = cc in absurd (no_split line_feed words others s after none)
one_separator text same rest more e (Separates.last_line words none) (Separates.last_line others free) = refl
one_separator text same rest more e (Separates.last_line words none) (Separates.block closes) =
    let at : slash ≡ star = cc in absurd (not_star at)
one_separator text same rest more e (Separates.block closes) (Separates.blank {b = b} h) =
    let at : b ≡ slash = cc in absurd (blank_apart b h at)
one_separator text same rest more e (Separates.block closes) (Separates.line others free) =
    let at : slash ≡ star = cc in absurd (not_star at)
one_separator text same rest more e (Separates.block closes) (Separates.last_line others free) =
    let at : slash ≡ star = cc in absurd (not_star at)
one_separator text same rest more e (Separates.block {text = t} {words = w} {rest = r} closes)
    (Separates.block {text = u} {words = v} {rest = s} ends) =
    let after : t ≡ u = cc in one_close t u w v r s after closes ends

-- where a token stands and none of the listed faults, there is no fault
pub no_fault : (kind : TokenKind) (text rest : List ℕ) → IsToken kind text rest
    → ((fault : LexKind) (at : List ℕ) → Breaks fault text at → ⊥) → NoFault text
no_fault kind text rest t none fault at (Faults.breaks b) = none fault at b
no_fault kind text rest t none fault at (Faults.bad_char no_token fine) = no_token kind rest t
