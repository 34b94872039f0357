use Rattle.std.proofs.Common.{ℕ, ◌+◌, ◌%◌, ◌<◌, List, length, drop, get_or, refl, sym, rules}
use Rattle.std.proofs.lemmas.List.{drop_more}
use Rattle.aql_net.specs.Picking.{ListPicks}
use Rattle.aql_net.proofs.list_picker.ListPickerPicker.pick.Goals as goal

-- the number at the place is the first that is left
goes_on : (picks : List ℕ) (at n : ℕ) → at < length picks
    → ListPicks (drop at picks) n (get_or picks at 0 % n) (drop (at + 1) picks)
goes_on picks at n within = rw (drop_more picks at 0 within) (refl, refl)

pub returns-clause-picked : goal.returns-clause-picked
returns-clause-picked c =
    let picker = c.self.inside in
    let within : picker.at < length picker.picks = search rules in
    rw (sym c.self.view_is, c.as_slice-picks.ensures) (goes_on picker.picks picker.at c.args.n within)
