-- The laws of the way that a submission goes: what it says of the tests, and which way it is where no test holds.
use mathlib.Core.Path.{◌≡◌, refl, ◌∙◌, ap, sym, subst}
use mathlib.Core.Bool.{Bool, true, false, not, ◌&&◌, cond}
use mathlib.Core.List.{List}
use Prim.Native.Nat.{ℕ, ◌+◌, ◌*◌, ◌≤◌, ◌<◌}
use Rattle.std.specs.Prelude.{None, Result, Ok, Err, ⊤}
use native.Mathlib.Omega.{arith}
use lib.Dec.{T, eqb, ltb}
use lib.ListN.{length, get_or}
use borrow.Author.Tests.{ltb-true, ltb-false, lt-ltb, le-ltb, eqb-true, eqb-false, eq-eqb, ne_eqb, not-false}
use Rattle.ring.specs.RingSums.{packet_limit}
use Rattle.ring.specs.declared.speed.Speed.{Speed}
use Rattle.ring.specs.declared.speed.Speed.TheVariants.{High, Full, Low}
use Rattle.session.specs.declared.types.IsoChannelState.{IsoChannelState}
use Rattle.session.specs.declared.refusal.IsoRefusal.{IsoRefusal}
use Rattle.session.specs.declared.transfer.IsoTransfer.{IsoTransfer}
use Rattle.session.specs.declared.transfer.SubmitWay.{SubmitWay}
use Rattle.session.specs.declared.transfer.SubmitWay.TheVariants.{Refuse, TooLong, Spend, Early, Cut, Late, Accept}
use Rattle.session.specs.Session.{ring_words, room, all_packets, pending_packets, has_reason}
use Rattle.session.specs.Record.{is_bad_record}
use Rattle.session.specs.Scan.{is_gate}
use Rattle.session.specs.Way.{is_low, sum, is_clash, is_over, entry_checks, entry_refusal, spend_checks, too_long, spend_refusal, refuse_or, spend_or, submit_way}
use Rattle.session.proofs.Laws.Sums.{room_few}
use Rattle.session.proofs.Laws.Record.{no_reason}
use Rattle.session.proofs.Laws.Stores.{none_long}
use Rattle.words.proofs.Laws.Tests.{neither, not_both}
use Rattle.session.proofs.Laws.Tests.{none}
use Rattle.session.proofs.Laws.Checks.{◌and◌, none_holds, none_first, short_all}

-- what holds of each way where the tests choose it holds of the way chosen
choose :
    (P : SubmitWay → Type 0) (i : ℕ) (a c : Result ⊤ IsoRefusal) (b x y z : Bool)
    → ((r : IsoRefusal) → a ≡ Err r → P (Refuse r))
    → (a ≡ Ok tt → b ≡ true → P (TooLong i))
    → (a ≡ Ok tt → b ≡ false → (r : IsoRefusal) → c ≡ Err r → P (Spend r))
    → (a ≡ Ok tt → b ≡ false → c ≡ Ok tt → x ≡ true → P Early)
    → (a ≡ Ok tt → b ≡ false → c ≡ Ok tt → x ≡ false → y ≡ true → P Cut)
    → (a ≡ Ok tt → b ≡ false → c ≡ Ok tt → x ≡ false → y ≡ false → z ≡ true → P Late)
    → (a ≡ Ok tt → b ≡ false → c ≡ Ok tt → x ≡ false → y ≡ false → z ≡ false → P Accept)
    → P (refuse_or a (cond b (TooLong i) (spend_or c (cond x Early (cond y Cut (cond z Late Accept))))))
choose P i (Err r) c b x y z h1 h2 h3 h4 h5 h6 h7 = h1 r refl
choose P i (Ok u) c true x y z h1 h2 h3 h4 h5 h6 h7 = h2 refl refl
choose P i (Ok u) (Err r) false x y z h1 h2 h3 h4 h5 h6 h7 = h3 refl refl r refl
choose P i (Ok u) (Ok v) false true y z h1 h2 h3 h4 h5 h6 h7 = h4 refl refl refl refl
choose P i (Ok u) (Ok v) false false true z h1 h2 h3 h4 h5 h6 h7 = h5 refl refl refl refl refl
choose P i (Ok u) (Ok v) false false false true h1 h2 h3 h4 h5 h6 h7 = h6 refl refl refl refl refl refl
choose P i (Ok u) (Ok v) false false false false h1 h2 h3 h4 h5 h6 h7 = h7 refl refl refl refl refl refl

-- none of the tests 17, 18 and 1 to 13 holds
pub record Clear (s : IsoChannelState) (t : IsoTransfer) (lengths ring : List ℕ) : Type 0 where
  pub entry : entry_refusal s t (length lengths) (length ring) ≡ Ok tt
  pub short : length lengths ≤ too_long s lengths
  pub spend : spend_refusal s t lengths ring ≡ Ok tt

-- what each way says of the tests
abbrev pub Told : IsoChannelState → IsoTransfer → List ℕ → List ℕ → SubmitWay → Type 0
Told s t lengths ring (Refuse r) = entry_refusal s t (length lengths) (length ring) ≡ Err r
Told s t lengths ring (TooLong i) = (entry_refusal s t (length lengths) (length ring) ≡ Ok tt) × (i ≡ too_long s lengths) × (i < length lengths)
Told s t lengths ring (Spend r) =
    (entry_refusal s t (length lengths) (length ring) ≡ Ok tt) × (length lengths ≤ too_long s lengths) × (spend_refusal s t lengths ring ≡ Err r)
Told s t lengths ring Early = Clear s t lengths ring × (s.head.live ≡ false) × (t.gate_program ≡ false)
Told s t lengths ring Cut = Clear s t lengths ring × (t.words < 2 * length lengths) × (s.head.live ≡ false → t.gate_program ≡ true)
Told s t lengths ring Late = Clear s t lengths ring × (s.head.live ≡ false) × (t.gate_enable ≡ false)
Told s t lengths ring Accept =
    Clear s t lengths ring × (2 * length lengths ≤ t.words) × (s.head.live ≡ false → t.gate_program ≡ true)
    × (s.head.live ≡ false → t.gate_enable ≡ true)

-- the tests of 12 and of the gates, which ask only where no channel is live: that they hold, that they do not, and back
both : (live gate : Bool) → (not live && not gate) ≡ true → (live ≡ false) × (gate ≡ false)
both false false e = (refl, refl)
both false true e = let z : ◌≡◌ {A = ℕ} 0 1 = cc in absurd (omega arith)
both true gate e = let z : ◌≡◌ {A = ℕ} 0 1 = cc in absurd (omega arith)

free : (live given : Bool) → (not live && not given) ≡ false → live ≡ false → given ≡ true
free live given e off = not-false given (not_both (not live) (not given) e (ap not off))

given_if : (live given : Bool) → (live ≡ false → given ≡ true) → (not live && not given) ≡ false
given_if true given h = refl
given_if false given h = ap not (h refl)

module _ (s : IsoChannelState) (t : IsoTransfer) (lengths ring : List ℕ) where
  -- the way that a submission goes says so of its tests
  pub told : Told s t lengths ring (submit_way s t lengths ring)
  told =
      let i = too_long s lengths in
      let n = length lengths in
      let short : ltb i n ≡ false → n ≤ i = ltb-false i n in
      choose (Told s t lengths ring) i (entry_refusal s t n (length ring)) (spend_refusal s t lengths ring) (ltb i n)
      (not s.head.live && not t.gate_program) (ltb t.words (2 * n)) (not s.head.live && not t.gate_enable)
      (λ r a. a)
      (λ a b. (a, refl, ltb-true i n b))
      (λ a b r c. (a, short b, c))
      (λ a b c x. (record { entry = a; short = short b; spend = c }, (both s.head.live t.gate_program x).0, (both s.head.live t.gate_program x).1))
      (λ a b c x y. (record { entry = a; short = short b; spend = c }, ltb-true t.words (2 * n) y, free s.head.live t.gate_program x))
      (λ a b c x y z. (
        record { entry = a; short = short b; spend = c },
        (both s.head.live t.gate_enable z).0,
        (both s.head.live t.gate_enable z).1,
      ))
      (λ a b c x y z. (
        record { entry = a; short = short b; spend = c },
        ltb-false t.words (2 * n) y,
        free s.head.live t.gate_program x,
        free s.head.live t.gate_enable z,
      ))

  -- the same of a way that is known
  pub told_of : (way : SubmitWay) → submit_way s t lengths ring ≡ way → Told s t lengths ring way
  told_of way h = subst (Told s t lengths ring) h told

passed : (s : IsoChannelState) (t : IsoTransfer) (lengths ring : List ℕ) (way : SubmitWay) → Told s t lengths ring way → T (is_gate way) → Clear s t lengths ring
passed s t lengths ring (Refuse r) h g = absurd g
passed s t lengths ring (TooLong i) h g = absurd g
passed s t lengths ring (Spend r) h g = absurd g
passed s t lengths ring Early h g = h.0
passed s t lengths ring Cut h g = h.0
passed s t lengths ring Late h g = h.0
passed s t lengths ring Accept h g = h.0

-- ---- no test held

-- where no test of 17, 18 and 1 to 8 holds: the ring's length, the record, the transfer and the room that it takes, in plain facts
pub record Entered (s : IsoChannelState) (t : IsoTransfer) (n words : ℕ) : Type 0 where
  pub ring_long : ring_words s.cfg ≤ words
  pub record_good : is_bad_record s ≡ false
  pub no_reason : s.fatal ≡ None
  pub not_low : is_low s.cfg.speed ≡ false
  pub isochronous : t.isochronous ≡ true
  pub some : 0 < n
  pub buffer : t.has_buffer ≡ true
  pub capacity : pending_packets s + n ≤ room s.cfg
  pub requests : s.head.count + 1 ≤ 64
  pub packets : all_packets s + n ≤ 1024

-- and none of 9 to 13: its lengths, its address, the channel and its slots
pub record Admitted (s : IsoChannelState) (t : IsoTransfer) (lengths ring : List ℕ) : Type 0 where
  pub entry : Entered s t (length lengths) (length ring)
  pub short : (k : ℕ) → k < length lengths → get_or lengths k 0 ≤ packet_limit s.cfg.speed
  pub sums : sum lengths ≡ t.buffer_len
  pub address : t.base + sum lengths ≤ 4294967295
  pub channel : s.head.live ≡ false → t.channel_free ≡ true
  pub apart : is_clash s t ring (length lengths) ≡ false

-- a packet's limit is within 16 bits
limit_few : (speed : Speed) → packet_limit speed ≤ 65535
limit_few High = omega arith
limit_few Full = omega arith
limit_few Low = omega arith

-- the plain facts
pub entered : (s : IsoChannelState) (t : IsoTransfer) (n words : ℕ) → entry_refusal s t n words ≡ Ok tt → Entered s t n words
entered s t n words h =
    let e = none_holds (entry_checks s t n words) h in
    let full = neither (ltb 64 (s.head.count + 1)) (ltb 1024 (all_packets s + n)) e.1.1.1.1.1.1.1.1.1.0 in
    let zero_test = eqb-false n 0 e.1.1.1.1.1.0 in
    record {
      ring_long = ltb-false words (ring_words s.cfg) e.0;
      record_good = e.1.0;
      no_reason = no_reason s.fatal e.1.1.0;
      not_low = e.1.1.1.0;
      isochronous = not-false t.isochronous e.1.1.1.1.0;
      some = omega (arith, zero_test);
      buffer = not-false t.has_buffer e.1.1.1.1.1.1.0;
      capacity = ltb-false (room s.cfg) (pending_packets s + n) e.1.1.1.1.1.1.1.1.0;
      requests = ltb-false 64 (s.head.count + 1) full.0;
      packets = ltb-false 1024 (all_packets s + n) full.1;
    }

pub admitted : (s : IsoChannelState) (t : IsoTransfer) (lengths ring : List ℕ) → Clear s t lengths ring → Admitted s t lengths ring
admitted s t lengths ring h =
    let p = none_holds (spend_checks s t lengths ring) h.spend in
    record {
      entry = entered s t (length lengths) (length ring) h.entry;
      short = none_long (packet_limit s.cfg.speed) lengths h.short;
      sums = eqb-true (sum lengths) t.buffer_len (not-false (eqb (sum lengths) t.buffer_len) p.0);
      address = ltb-false 4294967295 (t.base + sum lengths) p.1.0;
      channel = free s.head.live t.channel_free p.1.1.0;
      apart = p.1.1.1.0;
    }

pub gate_admitted :
    (s : IsoChannelState) (t : IsoTransfer) (lengths ring : List ℕ) (way : SubmitWay) → way ≡ submit_way s t lengths ring → T (is_gate way)
    → Admitted s t lengths ring
gate_admitted s t lengths ring way e g = admitted s t lengths ring (passed s t lengths ring way (told_of s t lengths ring way (sym e)) g)

-- and back: these facts are all that the tests ask
pub clear_if : (s : IsoChannelState) (t : IsoTransfer) (lengths ring : List ℕ) → Admitted s t lengths ring → Clear s t lengths ring
clear_if s t lengths ring h =
    let n = length lengths in
    let over : is_over s n ≡ false = le-ltb (room s.cfg) (pending_packets s + n) h.entry.capacity in
    record {
      entry =
          none_first (entry_checks s t n (length ring))
          (le-ltb (length ring) (ring_words s.cfg) h.entry.ring_long
          and h.entry.record_good
          and ap has_reason h.entry.no_reason
          and h.entry.not_low
          and ap not h.entry.isochronous
          and ne_eqb n 0 (λ e. omega (arith, h.entry.some))
          and ap not h.entry.buffer
          and ap (λ (b : Bool). b && eqb s.head.done s.head.count) over
          and over
          and none (le-ltb 64 (s.head.count + 1) h.entry.requests) (le-ltb 1024 (all_packets s + n) h.entry.packets)
          and tt);
      short = short_all (packet_limit s.cfg.speed) lengths h.short;
      spend =
          none_first (spend_checks s t lengths ring)
          (ap not (eq-eqb (sum lengths) t.buffer_len h.sums)
          and le-ltb 4294967295 (t.base + sum lengths) h.address
          and given_if s.head.live t.channel_free h.channel
          and h.apart
          and tt);
    }

-- past the tests and the first gate, the words and the second gate decide
pass : (a c : Result ⊤ IsoRefusal) (b x y z : Bool) (i : ℕ) → a ≡ Ok tt → b ≡ false → c ≡ Ok tt → x ≡ false
    → refuse_or a (cond b (TooLong i) (spend_or c (cond x Early (cond y Cut (cond z Late Accept))))) ≡ cond y Cut (cond z Late Accept)
pass a c b x y z i e f g h = rw (e, f, g, h)

module _ (s : IsoChannelState) (t : IsoTransfer) (lengths ring : List ℕ) (c : Clear s t lengths ring)
    (gate : s.head.live ≡ false → t.gate_program ≡ true) where
  pub passes :
      submit_way s t lengths ring ≡ cond (ltb t.words (2 * length lengths)) Cut (cond (not s.head.live && not t.gate_enable) Late Accept)
  passes =
      let i = too_long s lengths in
      let n = length lengths in
      pass (entry_refusal s t n (length ring)) (spend_refusal s t lengths ring) (ltb i n) (not s.head.live && not t.gate_program) (ltb t.words (2 * n))
      (not s.head.live && not t.gate_enable)
      i
      c.entry
      (le-ltb i n c.short)
      c.spend
      (given_if s.head.live t.gate_program gate)

  -- with words enough, and past the second gate, it is accepted; with fewer it is cut
  pub accepts : 2 * length lengths ≤ t.words → (s.head.live ≡ false → t.gate_enable ≡ true) → submit_way s t lengths ring ≡ Accept
  accepts h second =
      passes
      ∙ ap (λ (b : Bool). cond b Cut (cond (not s.head.live && not t.gate_enable) Late Accept)) (le-ltb t.words (2 * length lengths) h)
      ∙ ap (λ (b : Bool). cond b Late Accept) (given_if s.head.live t.gate_enable second)

  pub cuts : t.words < 2 * length lengths → submit_way s t lengths ring ≡ Cut
  cuts h = passes ∙ ap (λ (b : Bool). cond b Cut (cond (not s.head.live && not t.gate_enable) Late Accept)) (lt-ltb t.words (2 * length lengths) h)

-- what the loops of an accepted submission lean on: room for it, and lengths within 16 bits
pub record Acceptable (s : IsoChannelState) (lengths : List ℕ) : Type 0 where
  pub requests : s.head.count + 1 ≤ 64
  pub packets : all_packets s + length lengths ≤ 1024
  pub few : length lengths ≤ 255
  pub short : (k : ℕ) → k < length lengths → get_or lengths k 0 ≤ 65535

pub acceptable : (s : IsoChannelState) (t : IsoTransfer) (lengths ring : List ℕ) → Admitted s t lengths ring → Acceptable s lengths
acceptable s t lengths ring h =
    record {
      requests = h.entry.requests;
      packets = h.entry.packets;
      few = omega (arith, h.entry.capacity, room_few s.cfg);
      short = λ k l. omega (arith, h.short k l, limit_few s.cfg.speed);
    }
