-- What a verdict on a session's bytes says of them, and what a record tells: nothing where it is bad, and its sums where it is good.
use Rattle.std.specs.Prelude.{Option, None, Some, Result, Ok, Err}
use Rattle.std.proofs.Common.{arith, ◌≡◌, ℕ, Bool, true, false, cond, ltb, List, length, sym, refl, ap, ◌∙◌}
use Rattle.std.proofs.lemmas.Option.{none-some, same_Some}
use Rattle.session.specs.Session.{all_packets, pending_packets}
use Rattle.session.specs.Record.{is_bad_record}
use Rattle.session.specs.declared.refusal.IsoRefusal.{IsoRefusal}
use Rattle.session.specs.declared.refusal.IsoRefusal.TheVariants.{ShortBuffer, BadRecord}
use Rattle.session.specs.Numbers.{refusal_number}
use Rattle.session.specs.declared.reply.IsoReply.{IsoReply}
use Rattle.session.specs.declared.types.IsoChannelState.{IsoChannelState}
use Rattle.port.specs.declared.answers.PortReply.{PortReply}
use Rattle.port.specs.declared.scan.RequestSums.{RequestSums}
use Rattle.port.specs.Layout.{is_bad_layout, layout_number, session_of, left_bytes}
use Rattle.port.specs.Calls.{by_bytes, reply_by, bytes_by, reply_port, reply_refused}
use Rattle.port.specs.Scan.{sums_of, record_sums, verdict_of}
use Rattle.port.proofs.Laws.Calls.{refused}

module _ (s : IsoChannelState) where
  abbrev told_by : Bool → Option RequestSums
  told_by bad = cond bad None (Some (sums_of s))

  pub record_none : None ≡ record_sums s → is_bad_record s ≡ true
  record_none e = go (is_bad_record s) refl
    where
      go : (b : Bool) → is_bad_record s ≡ b → is_bad_record s ≡ true
      go true is = is
      go false is = absurd (none-some (sums_of s) (e ∙ ap told_by is))

  pub record_some : {sums : RequestSums} → Some sums ≡ record_sums s → (is_bad_record s ≡ false) × (sums.all ≡ all_packets s) × (sums.pending ≡ pending_packets s)
  record_some {sums} e = go (is_bad_record s) refl
    where
      go : (b : Bool) → is_bad_record s ≡ b → (is_bad_record s ≡ false) × (sums.all ≡ all_packets s) × (sums.pending ≡ pending_packets s)
      go true is = absurd (none-some sums (sym (e ∙ ap told_by is)))
      go false is =
          let same = same_Some sums (sums_of s) (e ∙ ap told_by is) in
          (is, ap (λ (r : RequestSums). r.all) same, ap (λ (r : RequestSums). r.pending) same)

module _ (xs : List ℕ) where
  abbrev verdict_by : Bool → Bool → Result (Option RequestSums) IsoRefusal
  verdict_by short bad = cond short (Err ShortBuffer) (cond bad (Err BadRecord) (Ok (record_sums (session_of xs))))

  abbrev number_by : Bool → Bool → ℕ
  number_by short bad = cond short 17 (cond bad 18 0)

  pub verdict_refused : {r : IsoRefusal} → Err r ≡ verdict_of xs → (refusal_number r ≡ layout_number xs) × (refusal_number r ≡ 0 → ⊥)
  verdict_refused {r} e = go (ltb (length xs) 8488) (is_bad_layout xs) e
    where
      go : (short bad : Bool) → Err r ≡ verdict_by short bad → (refusal_number r ≡ number_by short bad) × (refusal_number r ≡ 0 → ⊥)
      go true bad m =
          let same : r ≡ ShortBuffer = grind arith in
          (ap refusal_number same, λ z. omega (arith, z, ap refusal_number same))
      go false true m =
          let same : r ≡ BadRecord = grind arith in
          (ap refusal_number same, λ z. omega (arith, z, ap refusal_number same))
      go false false m = grind arith

  pub verdict_told : {r : Option RequestSums} → Ok r ≡ verdict_of xs → layout_number xs ≡ 0
  verdict_told {r} e = go (ltb (length xs) 8488) (is_bad_layout xs) e
    where
      go : (short bad : Bool) → Ok r ≡ verdict_by short bad → number_by short bad ≡ 0
      go true bad m = grind arith
      go false true m = grind arith
      go false false m = refl

  -- what a call by bytes gives where they are refused
  pub refused_by :
      {A : Type 0} (refuse : ℕ → A) (call : IsoChannelState → A) {r : IsoRefusal} → Err r ≡ verdict_of xs → refuse (refusal_number r) ≡ by_bytes xs refuse call
  refused_by refuse call e = let told = verdict_refused e in refused xs refuse call told.0 told.1

  -- and a call that answers no more than a reply
  pub reply_refused_by :
      (call : IsoChannelState → IsoReply) {r : IsoRefusal} {p : PortReply} → Err r ≡ verdict_of xs → p ≡ reply_refused (refusal_number r)
      → (p ≡ reply_by xs call) × (xs ≡ bytes_by xs (λ (s : IsoChannelState). (call s).session))
  reply_refused_by call e g = (
    g ∙ refused_by reply_refused (λ (s : IsoChannelState). reply_port (call s)) e,
    refused_by (λ (n : ℕ). xs) (λ (s : IsoChannelState). left_bytes xs (call s).session) e,
  )
