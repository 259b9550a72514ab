-- Tables that have as many columns as plans that read them were made for.
use Rattle.std.proofs.Common.{◌≡◌, ℕ, true, List, [], ◌∷◌, sym}
use Rattle.std.specs.List.{list_all}
use Rattle.std.proofs.lemmas.Bool.{and_parts, eqb-true}
use Rattle.scanned_tables.specs.declared.scans.ScannedTable.{ScannedTable}
use Rattle.scanned_tables.specs.Scans.{AreWide}
use Rattle.run_plans.specs.Widths.{has_width}

-- where each passes the test they are so wide
pub all_wide : (R : List ℕ → ℕ) (ss : List ScannedTable) → list_all (has_width R) ss ≡ true →
    AreWide ss R
all_wide R [] h = tt
all_wide R (s ∷ ss) h =
    let both = and_parts (has_width R s) (list_all (has_width R) ss) h in
    (sym (eqb-true (R s.name) s.columns both.0), all_wide R ss both.1)
