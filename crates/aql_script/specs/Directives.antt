-- The directives of a script, by the words of their lines:
--
--     %document NAME [shards=N] [keys=A,B]      %index NAME A,B
--     %edge NAME [shards=N] [keys=A,B]          %query
--
-- Options come in any order, each at most once. The forms are the project's own.
use Rattle.std.specs.Prelude.{ℕ, List, [], ◌∷◌, Bool, true, false, Option, Some, None, option_map, is_some, codes, bytes_eq, length, take, drop, if◌then◌else◌}
use Rattle.aql_script.specs.Names.{name_in, names_in, shard_count}
use Rattle.aql_script.specs.declared.options.Options.{Options}
use Rattle.aql_script.specs.declared.directives.Directive.{Directive}
use Rattle.aql_script.specs.declared.directives.Directive.TheVariants.{Declare, Index, Query}

abbrev pub begins : List ℕ → List ℕ → Bool
begins front word = bytes_eq (take (length front) word) front

abbrev pub with_shards : Options → List ℕ → Option Options
with_shards o digits =
    if is_some o.shards then None else option_map (λ n. record o { shards = Some n }) (shard_count digits)

abbrev pub with_keys : Options → List ℕ → Option Options
with_keys o names = if is_some o.keys then None else option_map (λ ks. record o { keys = Some ks })
    (names_in names)

-- the options with one more word
abbrev pub option_with : Options → List ℕ → Option Options
option_with o word =
    if begins (codes "shards=") word then with_shards o (drop 7 word)
    else (if begins (codes "keys=") word then with_keys o (drop 5 word) else None)

abbrev pub options_in : Option Options → List (List ℕ) → Option Options
options_in None words = None
options_in (Some o) [] = Some o
options_in (Some o) (word ∷ words) = options_in (option_with o word) words

abbrev pub no_options : Options
no_options = record { shards = None; keys = None }

abbrev pub declare : Bool → Option (List ℕ) → Option Options → Option Directive
declare edge (Some name) (Some options) = Some (Declare edge name options)
declare edge (Some name) None = None
declare edge None options = None

abbrev pub declaration : Bool → List (List ℕ) → Option Directive
declaration edge [] = None
declaration edge (name ∷ options) = declare edge (name_in name) (options_in (Some no_options) options)

abbrev pub index_directive : Option (List ℕ) → Option (List (List ℕ)) → Option Directive
index_directive (Some name) (Some attributes) = Some (Index name attributes)
index_directive (Some name) None = None
index_directive None attributes = None

abbrev pub index : List (List ℕ) → Option Directive
index (name ∷ attributes ∷ []) = index_directive (name_in name) (names_in attributes)
index words = None

abbrev pub query_alone : List (List ℕ) → Option Directive
query_alone [] = Some Query
query_alone (word ∷ words) = None

-- the directive that the words of a line are
abbrev pub directive : List (List ℕ) → Option Directive
directive [] = None
directive (first ∷ words) =
    if bytes_eq first (codes "%document") then declaration false words
    else (if bytes_eq first (codes "%edge") then declaration true words
    else (if bytes_eq first (codes "%index") then index words
    else (if bytes_eq first (codes "%query") then query_alone words else None)))
