-- The promises on listings: their length is bounded. Their proofs are in proofs/Short.antt.
use Rattle.std.specs.Prelude.{ℕ, ◌+◌, ◌*◌, ◌≤◌, ◌≡◌, List, length}
use Rattle.base.specs.Bytes.{Bytes}
use Rattle.base.specs.Outcome.{answer}
use Rattle.records.specs.Values.{Image}
use Rattle.records.specs.Layouts.{image}
use Rattle.manifest.specs.Checks.{image_given}
use Rattle.listing.specs.Listing.{listing}

-- a listing is at most its header and twice its image
abbrev pub ListingIsShort : Type 0
ListingIsShort = (i : Image) → length (listing i) ≤ 25 + 2 * length (image.write i)

-- so a buffer of 25 + 2 * 65,536 bytes holds the listing of every image
abbrev pub ListingFits : Type 0
ListingFits = (l : List ℕ) (i : Image) → Bytes l → image_given l ≡ answer i → length (listing i) ≤ 131097
