-- Which way a poll goes in the common cases, and when nothing is settled; what it answers and leaves, and the same by bytes.
use Rattle.std.specs.Prelude.{Result, Ok, Err, ⊤}
use Rattle.std.proofs.Common.{Option, Some, None, cond, ◌<◌, ◌≤◌, lt-ltb, le-ltb, ◌≡◌, ℕ, Bool, true, false, ltb, List, length, sym, refl, ap, ◌∙◌, ap₂, arith}
use Rattle.words.specs.Words.{is_set, complete, halted, hcint_fault}
use Rattle.words.specs.declared.types.Dwc2TransferFault.{Dwc2TransferFault}
use Rattle.session.specs.declared.refusal.IsoRefusal.{IsoRefusal}
use Rattle.session.specs.declared.refusal.IsoRefusal.TheVariants.{ShortBuffer, BadRecord}
use Rattle.session.specs.declared.reply.IsoEvent.{IsoEvent}
use Rattle.session.specs.declared.reply.PollWay.{PollWay}
use Rattle.session.specs.declared.reply.PollWay.TheVariants as way
use Rattle.session.specs.declared.types.IsoHaltReason.{IsoHaltReason}
use Rattle.session.specs.declared.types.IsoOutcome.TheVariants as outcome
use Rattle.session.specs.declared.types.IsoChannelState.{IsoChannelState}
use Rattle.session.specs.Session.{ring_words}
use Rattle.session.specs.Record.{is_bad_record}
use Rattle.session.specs.Poll.{way_by_reason, way_by_fault, way_by_event, poll_way, polled_by, polled_ring_by, polled, polled_ring}
use Rattle.session.proofs.Laws.Replies.{lent_done}
use Rattle.session.proofs.Laws.Tests.{second}
use Rattle.port.specs.declared.answers.PortReply.{PortReply}
use Rattle.port.specs.Tags.{flag_tag}
use Rattle.port.specs.Layout.{session_of}
use Rattle.port.specs.Calls.{port_reply, reply_port}
use Rattle.port.specs.Parts.{lent}
use Rattle.port.specs.Places.{Left}
use Rattle.port.proofs.Laws.Steps.{becomes, acted, reply_said}

module _ (s : IsoChannelState) (e : IsoEvent) where
  pub calm_way :
      s.head.live ≡ true → e.unplugged ≡ false → hcint_fault e.hcint ≡ None → is_set halted e.hcint ≡ false → s.fatal ≡ None
      → way.Settle (is_set complete e.hcint) ≡ poll_way s (Some e)
  calm_way l u f h n =
      let w : ℕ = e.hcint in
      sym
      (ap (λ (b : Bool). cond b (way_by_event s.fatal e) way.Nothing) l
      ∙ second e.unplugged (way.End outcome.Disconnected) _ u
      ∙ ap (λ (k : Option Dwc2TransferFault). way_by_fault k s.fatal w) f
      ∙ ap (λ (r : Option IsoHaltReason). way_by_reason r w) n
      ∙ second (is_set halted w) (way.End (outcome.UnexpectedHalt w)) (way.Settle (is_set complete w)) h)

-- a poll past both tests answers and leaves what its way does
module _ (xs ring : List ℕ) (e : Option IsoEvent) (fits : ltb (length ring) (ring_words (session_of xs).cfg) ≡ false) (good : is_bad_record (session_of xs) ≡ false) where
  pub replied :
      {v : PollWay} {p : PortReply} {taken halt : Bool} {after words : List ℕ} → v ≡ poll_way (session_of xs) e → p ≡ port_reply 0 (flag_tag taken) (flag_tag halt)
      → taken ≡ (polled_by v (session_of xs) ring).taken
      → halt ≡ (polled_by v (session_of xs) ring).halt
      → Left xs after (polled_by v (session_of xs) ring).session
      → words ≡ polled_ring_by v (session_of xs) ring
      → (p ≡ reply_port (polled (session_of xs) e ring)) × Left xs after (polled (session_of xs) e ring).session × (words ≡ polled_ring (session_of xs) e ring)
  replied is p t h a r =
      let s = session_of xs in
      let w = poll_way s e in
      let k = acted xs ring {w = w} is t h a r in
      let whole = lent_done s ring (polled_by w s ring) (polled_ring_by w s ring) fits good in
      let both = becomes xs (polled s e ring) whole.0 (reply_said s ring w p k.0 k.1) k.2 in
      (both.0, both.1, k.3 ∙ sym whole.1)

-- ---- a call that is lent the ring: refused with a number, or past both tests

module _ (s : IsoChannelState) (words : ℕ) where
  abbrev lent_by : Bool → Bool → Result ⊤ IsoRefusal
  lent_by short bad = cond short (Err ShortBuffer) (cond bad (Err BadRecord) (Ok tt))

  module _ {least : ℕ} (is : least ≡ ring_words s.cfg) where
    pub lent_short : words < least → Err ShortBuffer ≡ lent s words
    lent_short h = sym (ap (λ (a : Bool). lent_by a (is_bad_record s)) (sym (ap (ltb words) is) ∙ lt-ltb words least h))

    enough : least ≤ words → ltb words (ring_words s.cfg) ≡ false
    enough h = sym (ap (ltb words) is) ∙ le-ltb words least h

    pub lent_bad : least ≤ words → is_bad_record s ≡ true → Err BadRecord ≡ lent s words
    lent_bad h bad = sym (ap₂ lent_by (enough h) bad)

    pub lent_good : least ≤ words → is_bad_record s ≡ false → Ok tt ≡ lent s words
    lent_good h good = sym (ap₂ lent_by (enough h) good)

  pub lent_refused :
      {A : Type 0} {n : IsoRefusal} (answer : IsoRefusal → A) (r : A) → Err n ≡ lent s words
      → cond (ltb words (ring_words s.cfg)) (answer ShortBuffer) (cond (is_bad_record s) (answer BadRecord) r) ≡ answer n
  lent_refused {A} {n} answer r is = go (ltb words (ring_words s.cfg)) (is_bad_record s) is
    where
      go : (a b : Bool) → ◌≡◌ {A = Result ⊤ IsoRefusal} (Err n) (cond a (Err ShortBuffer) (cond b (Err BadRecord) (Ok tt))) → cond a (answer ShortBuffer) (cond b (answer BadRecord) r) ≡ answer n
      go true b e = ap answer (grind arith)
      go false true e = ap answer (grind arith)
      go false false e = grind arith

  pub lent_passed : Ok tt ≡ lent s words → (ltb words (ring_words s.cfg) ≡ false) × (is_bad_record s ≡ false)
  lent_passed is = go (ltb words (ring_words s.cfg)) (is_bad_record s) refl refl is
    where
      go : (a b : Bool) → ltb words (ring_words s.cfg) ≡ a → is_bad_record s ≡ b → ◌≡◌ {A = Result ⊤ IsoRefusal} (Ok tt) (cond a (Err ShortBuffer) (cond b (Err BadRecord) (Ok tt)))
          → (ltb words (ring_words s.cfg) ≡ false) × (is_bad_record s ≡ false)
      go true b p q e = grind arith
      go false true p q e = grind arith
      go false false p q e = (p, q)
