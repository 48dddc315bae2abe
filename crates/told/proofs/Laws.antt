-- Demand 1 for C: a stop's outcome leaves each slot and each buffer, and an answer's stands in it.
-- Assumes nothing.
use Rattle.told.specs.Laws.{RefusalKeepsTheSlot, RefusalKeepsBothSlots, RefusalKeepsPlaces, RefusalKeepsTheBuffer, AnswerStandsInTheSlot, AnswerStandsInBothSlots, MissingAnswerIsSaid, PlacesStandInBothSlots, AnswerStandsAtTheFront}

-- ---- after a refusal
pub refusal_keeps_the_slot : RefusalKeepsTheSlot
refusal_keeps_the_slot A n s r t = (t.returns, t.answered)

pub refusal_keeps_both_slots : RefusalKeepsBothSlots
refusal_keeps_both_slots A n there value r t = (t.returns, (t.flag, t.answered))

pub refusal_keeps_places : RefusalKeepsPlaces
refusal_keeps_places n start end r t = (t.returns, (t.from, t.to))

pub refusal_keeps_the_buffer : RefusalKeepsTheBuffer
refusal_keeps_the_buffer n out written r t = (t.returns, (t.buffer, t.count))

-- ---- after success
pub answer_stands_in_the_slot : AnswerStandsInTheSlot
answer_stands_in_the_slot A a s r t = (t.returns, t.answered)

pub answer_stands_in_both_slots : AnswerStandsInBothSlots
answer_stands_in_both_slots A a there value r t = (t.returns, (t.flag, t.answered))

pub missing_answer_is_said : MissingAnswerIsSaid
missing_answer_is_said A there value r t = (t.returns, (t.flag, t.answered))

pub places_stand_in_both_slots : PlacesStandInBothSlots
places_stand_in_both_slots p start end r t = (t.returns, (t.from, t.to))

pub answer_stands_at_the_front : AnswerStandsAtTheFront
answer_stands_at_the_front b out written r t = (t.returns, (t.buffer, t.count))
