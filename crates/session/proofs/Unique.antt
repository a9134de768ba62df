-- Each public function's promise leaves one answer: two that keep it, at the same arguments, are equal. Each line is over the function's own
-- contract, so it fails where the promise is weakened.
use mathlib.Core.List.{List}
use mathlib.Core.Path.{refl}
use Prim.Native.Nat.{ℕ}
use Rattle.words.proofs.Unique.{Unique, equal, equal_lent, equal_both, equal_all}
use Rattle.session.proofs.types.IsoChannelState as functions
use Rattle.session.proofs.end
use Rattle.session.proofs.open
use Rattle.session.proofs.place
use Rattle.session.proofs.poll
use Rattle.session.proofs.reclaim
use Rattle.session.proofs.refusal
use Rattle.session.proofs.record
use Rattle.session.proofs.submit
use Rattle.session.proofs.tables
use Rattle.session.proofs.way

pub open_unique : Unique 1 functions.open.Kinds.ps functions.open.Kinds.r functions.open.Reads.Post
open_unique κs a x y u v = equal_both (λ (words : List ℕ). (tt, (words, tt)))

pub is_bad_record_unique : Unique 1 functions.is_bad_record.Kinds.ps functions.is_bad_record.Kinds.r functions.is_bad_record.Reads.Post
is_bad_record_unique κs a x y u v = equal refl

pub submit_unique : Unique 2 functions.submit.Kinds.ps functions.submit.Kinds.r functions.submit.Reads.Post
submit_unique κs a x y u v = equal_both (λ (words : List ℕ). (tt, (tt, (tt, (words, tt)))))

pub poll_channel_unique : Unique 1 functions.poll_channel.Kinds.ps functions.poll_channel.Kinds.r functions.poll_channel.Reads.Post
poll_channel_unique κs a x y u v = equal_both (λ (words : List ℕ). (tt, (tt, (words, tt))))

pub cancel_unique : Unique 0 functions.cancel.Kinds.ps functions.cancel.Kinds.r functions.cancel.Reads.Post
cancel_unique κs a x y u v = equal refl

pub reset_unique : Unique 0 functions.reset.Kinds.ps functions.reset.Kinds.r functions.reset.Reads.Post
reset_unique κs a x y u v = equal refl

pub recover_unique : Unique 1 functions.recover.Kinds.ps functions.recover.Kinds.r functions.recover.Reads.Post
recover_unique κs a x y u v = equal_both (λ (words : List ℕ). (tt, (words, tt)))

pub reclaim_unique : Unique 2 functions.reclaim.Kinds.ps functions.reclaim.Kinds.r functions.reclaim.Reads.Post
reclaim_unique κs a x y u v = equal_all (λ (words results : List ℕ). (tt, (tt, (tt, (words, (results, tt))))))

-- ---- the parts of the calls, for a caller that holds the session in bytes

pub is_bad_config_unique : Unique 0 record.is_bad_config.Kinds.ps record.is_bad_config.Kinds.r record.is_bad_config.Reads.Post
is_bad_config_unique κs a x y u v = equal refl

pub is_over_room_unique : Unique 0 record.is_over_room.Kinds.ps record.is_over_room.Kinds.r record.is_over_room.Reads.Post
is_over_room_unique κs a x y u v = equal refl

pub is_bad_request_unique : Unique 0 record.is_bad_request.Kinds.ps record.is_bad_request.Kinds.r record.is_bad_request.Reads.Post
is_bad_request_unique κs a x y u v = equal refl

pub is_bad_plan_unique : Unique 0 record.is_bad_plan.Kinds.ps record.is_bad_plan.Kinds.r record.is_bad_plan.Reads.Post
is_bad_plan_unique κs a x y u v = equal refl

pub is_bad_state_unique : Unique 0 record.is_bad_state.Kinds.ps record.is_bad_state.Kinds.r record.is_bad_state.Reads.Post
is_bad_state_unique κs a x y u v = equal refl

pub ring_words_unique : Unique 0 open.ring_words.Kinds.ps open.ring_words.Kinds.r open.ring_words.Reads.Post
ring_words_unique κs a x y u v p q = equal refl p.0 q.0

pub with_outcome_unique : Unique 0 end.with_outcome.Kinds.ps end.with_outcome.Kinds.r end.with_outcome.Reads.Post
with_outcome_unique κs a x y u v = equal refl

pub way_of_unique : Unique 0 poll.way_of.Kinds.ps poll.way_of.Kinds.r poll.way_of.Reads.Post
way_of_unique κs a x y u v = equal refl

pub handed_answer_unique : Unique 0 reclaim.handed_answer.Kinds.ps reclaim.handed_answer.Kinds.r reclaim.handed_answer.Reads.Post
handed_answer_unique κs a x y u v = equal refl

pub insert_of_unique : Unique 1 place.insert_of.Kinds.ps place.insert_of.Kinds.r place.insert_of.Reads.Post
insert_of_unique κs a x y u v = equal refl

pub clash_unique : Unique 1 way.clash.Kinds.ps way.clash.Kinds.r way.clash.Reads.Post
clash_unique κs a x y u v = equal refl

pub clear_first_unique : Unique 1 open.clear_first.Kinds.ps open.clear_first.Kinds.r open.clear_first.Reads.Post
clear_first_unique κs a x y u v = equal_lent (λ (words : List ℕ). (words, (tt, tt)))

pub new_request_unique : Unique 0 submit.new_request.Kinds.ps submit.new_request.Kinds.r submit.new_request.Reads.Post
new_request_unique κs a x y u v = equal refl

-- ---- the numbers and the outcomes

pub refusal_number_unique : Unique 0 refusal.U16FromIsoRefusal.from.Kinds.ps refusal.U16FromIsoRefusal.from.Kinds.r refusal.U16FromIsoRefusal.from.Reads.Post
refusal_number_unique κs a x y u v = equal refl

pub outcome_of_unique : Unique 0 poll.IsoOutcomeFromIsoHaltReason.from.Kinds.ps poll.IsoOutcomeFromIsoHaltReason.from.Kinds.r poll.IsoOutcomeFromIsoHaltReason.from.Reads.Post
outcome_of_unique κs a x y u v = equal refl

pub has_reason_unique : Unique 0 record.has_reason.Kinds.ps record.has_reason.Kinds.r record.has_reason.Reads.Post
has_reason_unique κs a x y u v = equal refl

pub is_done_unique : Unique 0 reclaim.is_done.Kinds.ps reclaim.is_done.Kinds.r reclaim.is_done.Reads.Post
is_done_unique κs a x y u v = equal refl

pub rest_unique : Unique 0 tables.rest.Kinds.ps tables.rest.Kinds.r tables.rest.Reads.Post
rest_unique κs a x y u v = equal refl

pub is_guarded_unique : Unique 0 way.is_guarded.Kinds.ps way.is_guarded.Kinds.r way.is_guarded.Reads.Post
is_guarded_unique κs a x y u v = equal refl
