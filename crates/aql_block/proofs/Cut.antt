-- A column after each of its calls.
use Rattle.std.proofs.Common.{◌≡◌, ◌∙◌, ℕ, List, length, take, drop, set, map, Bool, ap, ap₂, sym}
use Rattle.std.proofs.lemmas.List.{length-map, take-map, map-set}
use Rattle.std.specs.Prelude.{slice_set}
use Rattle.aql_value.specs.Datum.{Datum, null}
use Rattle.aql_value.specs.View.{datum_of, datums_in}
use Rattle.aql_value.specs.declared.values.Value.{Value}
use Rattle.aql_value.specs.declared.values.Value.TheVariants.{Null}
use Rattle.aql_block.specs.Tables.{marked}
use Rattle.aql_block.specs.Columns.{ColumnView}
use Rattle.aql_block.proofs.Tabled.{drop-map, marked-map}

abbrev pub column_of : ℕ → List Datum → ColumnView
column_of room held = record { room = room; held = held }

pub column_first : (room len : ℕ) (items new : List Value) (now : ColumnView) → new ≡ take len items
    → column_of room (datums_in items) ≡ now
    → column_of room (datums_in new) ≡ column_of now.room (take len now.held)
column_first room len items new now e v =
    ap (λ (ws : List Value). column_of room (datums_in ws)) e
    ∙ ap (λ ds. column_of room ds) (sym (take-map datum_of len items))
    ∙ ap (λ (p : ColumnView). column_of p.room (take len p.held)) v

pub column_rest : (room at : ℕ) (items rest : List Value) (now : ColumnView) → rest ≡ drop at items
    → column_of room (datums_in items) ≡ now
    → column_of (length rest) (datums_in rest) ≡ column_of (length (drop at now.held)) (drop at now.held)
column_rest room at items rest now e v =
    ap (λ (ws : List Value). column_of (length ws) (datums_in ws)) e
    ∙ ap₂ (λ n ds. column_of n ds)
    (sym (length-map (drop at items) datum_of) ∙ ap length (sym (drop-map datum_of at items)))
    (sym (drop-map datum_of at items))
    ∙ ap (λ (p : ColumnView). column_of (length (drop at p.held)) (drop at p.held)) v

pub column_without : (room at : ℕ) (items : List Value) (d : Value) (now : ColumnView) → d ≡ Null
    → column_of room (datums_in items) ≡ now
    → column_of room (datums_in (set items at d)) ≡ column_of now.room (slice_set now.held at null)
column_without room at items d now e v =
    ap (λ (x : Value). column_of room (datums_in (set items at x))) e
    ∙ ap (λ ds. column_of room ds) (map-set datum_of items at Null)
    ∙ ap (λ (p : ColumnView). column_of p.room (slice_set p.held at null)) v

pub column_marked : (room : ℕ) (marks : List Bool) (items new : List Value) (now : ColumnView)
    → new ≡ marked items marks → column_of room (datums_in items) ≡ now
    → column_of room (datums_in new) ≡ column_of now.room (marked now.held marks)
column_marked room marks items new now e v =
    ap (λ (ws : List Value). column_of room (datums_in ws)) e
    ∙ ap (λ ds. column_of room ds) (sym (marked-map datum_of items marks))
    ∙ ap (λ (p : ColumnView). column_of p.room (marked p.held marks)) v
