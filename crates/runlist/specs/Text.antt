-- What the program writes for an input: the listing, or the number of the stop. Document 01, program `runlist`.
use Rattle.std.specs.Prelude.{ℕ, List, [], ◌∷◌, ◌++◌}
use Rattle.base.specs.Outcome.{Outcome, stop, answer}
use Rattle.text.specs.Text.{decimal}
use Rattle.records.specs.Values.{Image}
use Rattle.manifest.specs.Checks.{image_given}
use Rattle.listing.specs.Listing.{listing}

-- `stop `, the number and a newline, in ASCII
abbrev pub stop_text : ℕ → List ℕ
stop_text n = (115 ∷ 116 ∷ 111 ∷ 112 ∷ 32 ∷ []) ++ (decimal n ++ (10 ∷ []))

abbrev pub outcome_text : Outcome Image → List ℕ
outcome_text (stop n) = stop_text n
outcome_text (answer i) = listing i

unfoldable pub runlist_text : List ℕ → List ℕ
runlist_text l = outcome_text (image_given l)
