-- The answers of recovery, reset and cancelling: what each is where the tests before it were passed and its own held; and how the walk for a
-- request's number goes on.
use mathlib.Core.Path.{◌≡◌, ◌∙◌, ap}
use mathlib.Core.Bool.{Bool, true, false, cond}
use mathlib.Core.List.{List}
use Prim.Native.Nat.{ℕ, suc, ◌+◌, ◌≤◌, ◌<◌}
use Rattle.std.specs.Prelude.{Ok}
use lib.Dec.{eqb, ltb}
use lib.ListN.{length, get_or}
use lib.Seq.{slice}
use Rattle.session.specs.declared.types.IsoChannelState.{IsoChannelState}
use Rattle.session.specs.declared.types.IsoHaltReason.TheVariants as reason
use Rattle.session.specs.declared.types.IsoRequest.{IsoRequest}
use Rattle.session.specs.declared.refusal.IsoRefusal.TheVariants as refusal
use Rattle.session.specs.declared.reply.IsoReply.{IsoReply}
use Rattle.session.specs.Session.{blank_request, ring_words, has_reason}
use Rattle.session.specs.Record.{is_bad_record}
use Rattle.session.specs.Poll.{reply, refused_reply, with_reason, is_empty, at_start, reset_reply}
use Rattle.session.specs.Cancel.{place_of, request_at, with_cancelled, cancelled}
use Rattle.session.proofs.Laws.Lists.{slice_next}
use Rattle.session.proofs.Laws.Tests.{first, second, in_turn}

-- a call that is lent the ring: 17, then 18, then what it does
module _ (s : IsoChannelState) (ring : List ℕ) (r : IsoReply) (words : List ℕ) where
  abbrev short : Bool
  short = ltb (length ring) (ring_words s.cfg)

  abbrev inner : IsoReply
  inner = cond (is_bad_record s) (refused_reply refusal.BadRecord s) r

  abbrev inner_words : List ℕ
  inner_words = cond (is_bad_record s) ring words

  -- the reply and the ring of the definition
  abbrev Told : IsoReply → List ℕ → Type 0
  Told answered left = (answered ≡ cond short (refused_reply refusal.ShortBuffer s) inner) × (left ≡ cond short ring inner_words)

  pub lent_done :
      short ≡ false → is_bad_record s ≡ false → (cond short (refused_reply refusal.ShortBuffer s) inner ≡ r) × (cond short ring inner_words ≡ words)
  lent_done e b = (in_turn (refused_reply refusal.ShortBuffer s) (refused_reply refusal.BadRecord s) r e b, in_turn ring ring words e b)

-- reset
module _ (s : IsoChannelState) where
  abbrev emptied : IsoReply
  emptied = reply (Ok tt) false false (at_start s)

  pub reset_bad : is_bad_record s ≡ true → reset_reply s ≡ refused_reply refusal.BadRecord s
  reset_bad b = first (is_bad_record s) (refused_reply refusal.BadRecord s) (cond (is_empty s) emptied (refused_reply refusal.NotEmpty s)) b

  pub reset_full : is_bad_record s ≡ false → is_empty s ≡ false → reset_reply s ≡ refused_reply refusal.NotEmpty s
  reset_full b e =
      second (is_bad_record s) (refused_reply refusal.BadRecord s) (cond (is_empty s) emptied (refused_reply refusal.NotEmpty s)) b
      ∙ second (is_empty s) emptied (refused_reply refusal.NotEmpty s) e

  pub reset_done : is_bad_record s ≡ false → is_empty s ≡ true → reset_reply s ≡ emptied
  reset_done b e =
      second (is_bad_record s) (refused_reply refusal.BadRecord s) (cond (is_empty s) emptied (refused_reply refusal.NotEmpty s)) b
      ∙ first (is_empty s) emptied (refused_reply refusal.NotEmpty s) e

-- cancelling
module _ (s : IsoChannelState) (id : ℕ) where
  abbrev amended : IsoReply
  amended = reply (Ok tt) false false (with_cancelled (request_at id s) s)

  abbrev stands : IsoReply
  stands = reply (Ok tt) false false s

  abbrev halting : IsoReply
  halting = reply (Ok tt) false true (with_reason reason.Cancelled s)

  abbrev is_done_lem : Bool
  is_done_lem = ltb (request_at id s) s.head.done

  abbrev is_in_lem : Bool
  is_in_lem = ltb (request_at id s) s.head.count

  abbrev pending : IsoReply
  pending = cond (has_reason s.fatal) stands halting

  abbrev known : IsoReply
  known = cond is_in_lem pending (refused_reply refusal.UnknownRequest s)

  pub cancel_bad : is_bad_record s ≡ true → cancelled s id ≡ refused_reply refusal.BadRecord s
  cancel_bad b = first (is_bad_record s) (refused_reply refusal.BadRecord s) (cond is_done_lem amended known) b

  past_record : is_bad_record s ≡ false → cancelled s id ≡ cond is_done_lem amended known
  past_record b = second (is_bad_record s) (refused_reply refusal.BadRecord s) (cond is_done_lem amended known) b

  pub cancel_completed : is_bad_record s ≡ false → is_done_lem ≡ true → cancelled s id ≡ amended
  cancel_completed b e = past_record b ∙ first is_done_lem amended known e

  past_done : is_bad_record s ≡ false → is_done_lem ≡ false → cancelled s id ≡ known
  past_done b e = past_record b ∙ second is_done_lem amended known e

  pub cancel_unknown : is_bad_record s ≡ false → is_done_lem ≡ false → is_in_lem ≡ false → cancelled s id ≡ refused_reply refusal.UnknownRequest s
  cancel_unknown b e u = past_done b e ∙ second is_in_lem pending (refused_reply refusal.UnknownRequest s) u

  pub cancel_again : is_bad_record s ≡ false → is_done_lem ≡ false → is_in_lem ≡ true → has_reason s.fatal ≡ true → cancelled s id ≡ stands
  cancel_again b e u f = past_done b e ∙ first is_in_lem pending (refused_reply refusal.UnknownRequest s) u ∙ first (has_reason s.fatal) stands halting f

  pub cancel_halt : is_bad_record s ≡ false → is_done_lem ≡ false → is_in_lem ≡ true → has_reason s.fatal ≡ false → cancelled s id ≡ halting
  cancel_halt b e u f = past_done b e ∙ first is_in_lem pending (refused_reply refusal.UnknownRequest s) u ∙ second (has_reason s.fatal) stands halting f

-- the walk for a number: it ends at the request that has it, goes on past another, and counts none where nothing is left
module _ (id i t : ℕ) (l : List IsoRequest) where
  pub place_here : i < t → t ≤ length l → eqb (get_or l i blank_request).id id ≡ true → place_of id (slice i t l) ≡ 0
  place_here h k e =
      ap (place_of id) (slice_next i t l blank_request h k) ∙ ap (λ (b : Bool). cond b 0 (suc (place_of id (slice (i + 1) t l)))) e

  pub place_next :
      i < t → t ≤ length l → eqb (get_or l i blank_request).id id ≡ false
      → place_of id (slice i t l) ≡ suc (place_of id (slice (i + 1) t l))
  place_next h k e =
      ap (place_of id) (slice_next i t l blank_request h k) ∙ ap (λ (b : Bool). cond b 0 (suc (place_of id (slice (i + 1) t l)))) e
