-- The exits of `put_stop` and `answer`.
-- Assumes nothing.
use Prim.Native.Nat.{ℕ, ◌+◌, ◌≤◌, ◌<◌}
use native.Mathlib.Omega.{arith}
use native.Mathlib.Nat.{zero-add}
use mathlib.Core.Path.{◌≡◌, refl, subst, sym, ap, ◌∙◌}
use mathlib.Core.List.{List, [], ◌∷◌, ◌++◌}
use lib.ListN.{length, drop, length-append}
use lib.Seq.{take_at}
use borrow.Author.Tests.{le-leb}
use mir.Val.{Fits}
use mir.Syntax.{w64}
use Rattle.base.specs.Bytes.{Bytes}
use Rattle.base.specs.Outcome.{Outcome, stop, answer, and_then, over, lent, reported}
use Rattle.base.specs.Splice.{splice, spliced_length, splice_splice}
use Rattle.base.specs.declared.Written.{Written}
use Rattle.base.specs.declared.Written.TheVariants.{Wrote, Stop}
use Rattle.text.specs.Text.{decimal}
use Rattle.text.proofs.Decimal.{decimal_is_short}
use Rattle.records.specs.Values.{Image}
use Rattle.manifest.specs.Checks.{image_given}
use Rattle.listing.specs.Listing.{listing}
use Rattle.bilqarush.specs.ImageCalls.{list_outcome}
use Rattle.io.specs.Counts.{IsPrefixLen}
use Rattle.runlist.specs.Text.{stop_text, outcome_text, runlist_text}
use Rattle.listing.proofs.Short.{listing_fits}

-- ---- put_stop: the word, the digits, the newline
abbrev word : List ℕ
word = 115 ∷ 116 ∷ 111 ∷ 112 ∷ 32 ∷ []

module _ (d : List ℕ) (n : ℕ) (h : n < 256) (room : 9 ≤ length d) {e : List ℕ} (p : e ≡ splice d 0 word) where
  digits_few : length (decimal n) ≤ 3
  digits_few = (decimal_is_short n 3 (omega arith) (omega arith)).1

  word_length : length e ≡ length d
  word_length = spliced_length d 0 word p (omega arith)

  pub digits_room : 5 + length (decimal n) ≤ length e
  digits_room = omega (arith, digits_few, word_length)

  module _ {m : ℕ} (k : m ≡ n) {f : List ℕ} {to : ℕ} (put : f ≡ splice e 5 (decimal m)) (ends : to ≡ 5 + length (decimal m)) where
    q : f ≡ splice e 5 (decimal n)
    q = subst (λ x. f ≡ splice e 5 (decimal x)) k put

    t : to ≡ 5 + length (decimal n)
    t = subst (λ x. to ≡ 5 + length (decimal x)) k ends

    pub newline_room : to < length f
    newline_room = omega (arith, t, digits_few, word_length, spliced_length e 5 (decimal n) q digits_room)

    pub past_fits : Fits w64 (to + 1)
    past_fits = omega (arith, t, digits_few)

    size : length (stop_text n) ≡ 6 + length (decimal n)
    size = rw (length-append, length-append) (omega arith)

    pub stop_past : to + 1 ≡ length (stop_text n)
    stop_past = omega (arith, t, size)

    pub stop_put : {g : List ℕ} → g ≡ splice f to (10 ∷ []) → g ≡ over (stop_text n) d
    stop_put r =
        r
        ∙ ap (λ l. splice l to (10 ∷ [])) q
        ∙ splice_splice e 5 (decimal n) (10 ∷ []) to t digits_room
        ∙ ap (λ l. splice l 5 (decimal n ++ (10 ∷ []))) p
        ∙ splice_splice d 0 word (decimal n ++ (10 ∷ [])) 5 refl (omega arith)
        ∙ rw zero-add

pub ruleset stop_exits = (digits_room, newline_room, past_fits, stop_past, stop_put)

-- ---- answer: every listing has room, so `list` stops only where the image is refused
abbrev texts : Outcome Image → Outcome (List ℕ)
texts o = and_then o (λ i. answer (listing i))

stopped : (o : Outcome Image) (n : ℕ) → Stop n ≡ reported (texts o) → stop_text n ≡ outcome_text o
stopped (stop m) n e = let z : n ≡ m = cc in ap stop_text z
stopped (answer i) n e = absurd (let z : ◌≡◌ {A = ℕ} 0 1 = cc in omega arith)

kept : (o : Outcome Image) (n : ℕ) (d : List ℕ) → Stop n ≡ reported (texts o) → lent d (texts o) ≡ d
kept (stop m) n d e = refl
kept (answer i) n d e = absurd (let z : ◌≡◌ {A = ℕ} 0 1 = cc in omega arith)

wrote_long : (o : Outcome Image) (n : ℕ) → Wrote n ≡ reported (texts o) → n ≡ length (outcome_text o)
wrote_long (stop m) n e = absurd (let z : ◌≡◌ {A = ℕ} 0 1 = cc in omega arith)
wrote_long (answer i) n e = cc

wrote_put : (o : Outcome Image) (n : ℕ) (d : List ℕ) → Wrote n ≡ reported (texts o) → lent d (texts o) ≡ over (outcome_text o) d
wrote_put (stop m) n d e = absurd (let z : ◌≡◌ {A = ℕ} 0 1 = cc in omega arith)
wrote_put (answer i) n d e = refl

-- what the function ensures, of its answer and of the buffer afterwards
abbrev Answered : List ℕ → List ℕ → ℕ → List ℕ → Type 0
Answered s d n e = (n ≡ length (runlist_text s)) × ((e ≡ over (runlist_text s) d) × IsPrefixLen n e)

-- a text at the front of a buffer is within it
within : (t d : List ℕ) {e : List ℕ} {n : ℕ} → n ≡ length t → e ≡ over t d → IsPrefixLen n e
within t d {e} {n} l p =
    (rw (p, length-append) (omega (arith, l)), rw (p, take_at t (drop (length t) d) n (sym l)) l)

answered : (s d : List ℕ) {n : ℕ} {e : List ℕ} → n ≡ length (runlist_text s) → e ≡ over (runlist_text s) d → Answered s d n e
answered s d l p = (l, (p, within (runlist_text s) d l p))

module _ (s d : List ℕ) (b : Bytes s) (room : length d ≡ 131104) where
  outcome_is : list_outcome s (length d) ≡ texts (image_given s)
  unfolding list_outcome
  outcome_is = go (image_given s) refl
    where
      go : (o : Outcome Image) → image_given s ≡ o → list_outcome s (length d) ≡ texts (image_given s)
      go (stop n) e = rw e
      go (answer i) e = rw (e, le-leb (length (listing i)) (length d) (omega (arith, listing_fits s i b e)))

  module _ {r : Written} {e : List ℕ} (q : r ≡ reported (list_outcome s (length d))) (p : e ≡ lent d (list_outcome s (length d))) where
    reported_is : {w : Written} → r ≡ w → w ≡ reported (texts (image_given s))
    reported_is x = sym x ∙ q ∙ ap reported outcome_is

    lent_is : e ≡ lent d (texts (image_given s))
    lent_is = p ∙ ap (lent d) outcome_is

    pub listed : {n : ℕ} → r ≡ Wrote n → Answered s d n e
    unfolding runlist_text
    listed {n} x = answered s d (wrote_long (image_given s) n (reported_is x)) (lent_is ∙ wrote_put (image_given s) n d (reported_is x))

    pub refused : {n : ℕ} → r ≡ Stop n → {z : ℕ} {f : List ℕ} → z ≡ length (stop_text n) → f ≡ over (stop_text n) e → Answered s d z f
    unfolding runlist_text
    refused {n} x l q =
        let t = stopped (image_given s) n (reported_is x) in
        let k : e ≡ d = lent_is ∙ kept (image_given s) n d (reported_is x) in
        answered s d (l ∙ ap length t) (q ∙ ap (over (stop_text n)) k ∙ ap (λ t. over t d) t)
