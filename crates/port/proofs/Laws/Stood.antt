-- Facts that docs/LANDINGS.md names and no proof leans on.
use Rattle.std.proofs.Common.{◌≡◌, ℕ, suc, max, ltb-true, ltb-false, List, ◌++◌, ◌+◌, ◌-◌, ◌*◌, ◌/◌, ◌%◌, ◌<◌, ◌≤◌, Bool, true, false, not, ◌||◌, eqb, ltb, cond, eq-eqb, length, get_or, take, drop, set, replicate, refl, sym, ap, ◌∙◌, ap₂, subst, arith, take_all, le-ltb, mod-eq_of_lt}
use native.Mathlib.Nat.{add-mul-mod_self_left}
use lib.Seq.{slice, sets, sets-eq, length-sets, length-slice}
use Rattle.words.specs.Words.{is_set, active}
use Rattle.ring.specs.RingSums.{ring_size}
use Rattle.ring.specs.declared.speed.Speed.{Speed}
use Rattle.ring.specs.declared.speed.Speed.TheVariants.{High}
use Rattle.session.specs.declared.types.IsoConfig.{IsoConfig}
use Rattle.session.specs.declared.types.IsoChannelState.{IsoChannelState}
use Rattle.session.specs.declared.reply.IsoReply.{IsoReply}
use Rattle.session.specs.Session.{slots, ring_words, room, blank_request, blank_plan, all_packets, pending_packets}
use Rattle.session.specs.Record.{is_bad_record}
use Rattle.session.proofs.Laws.Record.{sound}
use Rattle.words.proofs.Laws.Tests.{neither}
use Rattle.session.specs.Settle.{is_served, oldest_from, oldest_to, drained}
use Rattle.session.proofs.Laws.Sums.{packets_past, packets_split, room_fits}
use Rattle.session.proofs.Laws.Settled.{drained_stop}
use Rattle.port.specs.declared.answers.PortReply.{PortReply}
use Rattle.port.specs.Bytes.{byte_of}
use Rattle.port.specs.Tags.{speed_of}
use Rattle.port.specs.Layout.{any_of, config_of, is_bad_layout, layout_number, left_bytes, session_of}
use Rattle.port.specs.Scan.{is_unsound}
use Rattle.port.proofs.Laws.Placed.{requests_many, plans_many}
use mathlib.Core.Path.{subst⁻¹}
use Rattle.port.specs.Calls.{port_reply, reply_port, reply_refused, reply_by, bytes_by}
use Rattle.port.specs.Places.{Left}
use Rattle.port.proofs.Laws.Calls.{done}
use Rattle.port.proofs.Laws.Runs.{sets_append, take_sets, drop_sets}
use Rattle.session.proofs.Laws.Lists.{slice_split}
use Rattle.port.proofs.Laws.Settling.{oldest_ends}
use Rattle.port.proofs.Laws.Tables.{any_split, any_less}

-- a list that is lent on as the part from its beginning to its end
pub lent_whole : (P : List ℕ → Type 0) (xs : List ℕ) → P (take (length xs - 0) xs) → P xs
lent_whole P xs = subst P (take_all (length xs - 0) xs (omega arith))

module _ {A : Type 0} where
  -- one of a run that is the same throughout, and the rest of it
  pub same_more :
      (l : List A) (a : A) (from i n : ℕ) → i < n → sets (set l (from + i) a) (from + (i + 1)) (replicate (n - (i + 1)) a) ≡ sets l (from + i) (replicate (n - i) a)
  same_more l a from i n h =
      let on : from + (i + 1) ≡ suc (from + i) = omega arith in
      let more : suc (n - (i + 1)) ≡ n - i = omega arith in
      ap (λ (k : ℕ). sets (set l (from + i) a) k (replicate (n - (i + 1)) a)) on ∙ ap (λ (k : ℕ). sets l (from + i) (replicate k a)) more

  sets_over : (l : List A) (i : ℕ) (ys zs : List A) → length ys ≤ length zs → i + length zs ≤ length l → sets (sets l i ys) i zs ≡ sets l i zs
  sets_over l i ys zs h k =
      sets-eq zs (sets l i ys) i (omega (arith, length-sets l i ys))
      ∙ ap₂ (λ (a b : List A). a ++ zs ++ b) (take_sets i l i ys (omega arith)) (drop_sets (i + length zs) l i ys (omega arith))
      ∙ sym (sets-eq zs l i k)

  -- `b` of the `n` are moved; then those from the `a`th on, read before, are stored over some that stand there already
  pub moved_over :
      (into from n a b : ℕ) (l : List A) → a ≤ b → b ≤ n → into ≤ from → from + n ≤ length l
      → sets (sets l into (slice from (from + b) l)) (into + a) (slice (from + a) (from + n) l) ≡ sets l into (slice from (from + n) l)
  moved_over into from n a b l h k down fits =
      let first : List A = slice from (from + a) l in
      let some : List A = slice (from + a) (from + b) l in
      let rest : List A = slice (from + a) (from + n) l in
      let many : length first ≡ a = length-slice from (from + a) l (omega arith) ∙ omega arith in
      let few : length some ≡ b - a = length-slice (from + a) (from + b) l (omega arith) ∙ omega arith in
      let all : length rest ≡ n - a = length-slice (from + a) (from + n) l (omega arith) ∙ omega arith in
      let on : into + a ≡ into + length first = omega (arith, many) in
      ap (λ (m : List A). sets (sets l into m) (into + a) rest) (slice_split from (from + a) (from + b) l (omega arith) (omega arith) (omega arith))
      ∙ ap (λ (m : List A). sets m (into + a) rest) (sym (sets_append first l into some))
      ∙ ap (λ (i : ℕ). sets (sets (sets l into first) (into + length first) some) i rest) on
      ∙ sets_over (sets l into first) (into + length first) some rest (omega (arith, few, all)) (omega (arith, many, all, length-sets l into first))
      ∙ sets_append first l into rest
      ∙ ap (sets l into) (sym (slice_split from (from + a) (from + n) l (omega arith) (omega arith) fits))

module _ (bad : List ℕ → Bool) (w : ℕ) where
  -- of the last `k` none is bad, and of those before them, or of more than those
  pub any_over :
      (n i k at : ℕ) (xs : List ℕ) → k ≤ n → n - k ≤ i → any_of bad w i (drop at xs) ≡ false → any_of bad w k (drop (at + w * (n - k)) xs) ≡ false
      → any_of bad w n (drop at xs) ≡ false
  any_over n i k at xs fits reach before last =
      let all : n ≡ n - k + k = omega arith in
      ap (λ (m : ℕ). any_of bad w m (drop at xs)) all
      ∙ any_split bad w (n - k) k at xs
      ∙ ap₂ (λ (x y : Bool). x || y) (any_less bad w i (n - k) (drop at xs) reach before) last

-- without requests there are no packets
pub empty_all : (xs : List ℕ) → (session_of xs).head.count ≡ 0 → 0 ≡ all_packets (session_of xs)
empty_all xs empty = let s : IsoChannelState = session_of xs in sym (packets_past 0 s.head.count s.requests (omega (arith, empty)))

speed_there : (xs : List ℕ) → speed_of (byte_of (drop 5 xs)) ≡ (session_of xs).cfg.speed
unfolding session_of config_of
speed_there xs = refl

-- a byte of 0 for the speed: high speed, and a ring of 512 words
pub high_speed :
    (xs : List ℕ) {b : ℕ} → b ≡ byte_of (drop 5 xs) → b ≡ 0 → ((session_of xs).cfg.speed ≡ High) × (ring_words (session_of xs).cfg ≡ 512)
high_speed xs e zero =
    let high : (session_of xs).cfg.speed ≡ High = sym (speed_there xs) ∙ ap speed_of (sym e ∙ zero) in
    (high, ap (λ (s : Speed). ring_size s * 2) high)

-- packets that fit a ring of 256 slots with a whole interval between them
pub few_fit : (cfg : IsoConfig) (n : ℕ) → slots cfg ≡ 256 → n ≤ 255 → (n + 1) * cfg.interval ≤ 256 → ltb (room cfg) n ≡ false
few_fit cfg n e few h = le-ltb (room cfg) n (room_fits cfg n (go (ltb 0 cfg.interval) refl))
  where
    go : (b : Bool) → ltb 0 cfg.interval ≡ b → (n + 1) * max 1 cfg.interval ≤ slots cfg
    go true t =
        let same : max 1 cfg.interval ≡ cfg.interval = omega (arith, ltb-true 0 cfg.interval t) in
        omega (arith, e, h, ap (λ (m : ℕ). (n + 1) * m) same)
    go false f =
        let one : max 1 cfg.interval ≡ 1 = omega (arith, ltb-false 0 cfg.interval f) in
        omega (arith, e, few, ap (λ (m : ℕ). (n + 1) * m) one)

-- a first request that is not completed and whose last descriptor is active waits
pub first_waits :
    (s : IsoChannelState) (ring : List ℕ) {n slot : ℕ} → s.head.done ≡ 0 → (s.head.count ≡ 0 → ⊥)
    → n ≡ (get_or s.requests 0 blank_request).packets
    → slot ≡ (get_or s.plans (n - 1) blank_plan).desc_index
    → is_set active (get_or ring (2 * slot) 0) ≡ true
    → drained false s ring ≡ record { session = s; ring = ring }
first_waits s ring {n} {slot} none some en es on =
    let first : 0 ≡ oldest_from s = sym (packets_past 0 s.head.done s.requests (omega (arith, none))) in
    let ends : n ≡ oldest_to s = omega (arith, oldest_ends s 0 0 n first (sym none) en) in
    let last = es ∙ ap (λ (t : ℕ). (get_or s.plans (t - 1) blank_plan).desc_index) ends in
    let served : is_served s ring ≡ false =
    sym (ap (λ (k : ℕ). not (is_set active (get_or ring (2 * k) 0))) last) ∙ ap not on in
    drained_stop false s ring (omega (arith, none, some)) served

-- a call that worked on good bytes where they stand
module _ (xs : List ℕ) (call : IsoChannelState → IsoReply) where
  pub reply_done :
      {n : ℕ} {p : PortReply} {after : List ℕ} → n ≡ layout_number xs → n ≡ 0 → p ≡ reply_port (call (session_of xs)) → Left xs after (call (session_of xs)).session
      → (p ≡ reply_by xs call) × (after ≡ bytes_by xs (λ (t : IsoChannelState). (call t).session))
  reply_done e z p left = (
    p ∙ done xs reply_refused call reply_port e z refl refl,
    left.bytes ∙ done xs (λ (n : ℕ). xs) call (λ (r : IsoReply). left_bytes xs r.session) e z refl refl,
  )

pub refused_flags : {n : ℕ} {p : PortReply} → p ≡ reply_refused n → (p.taken ≤ 1) × (p.halt ≤ 1)
refused_flags e = (omega (arith, ap (λ (q : PortReply). q.taken) e), omega (arith, ap (λ (q : PortReply). q.halt) e))

-- the number is read as it was made
abbrev reply_number : PortReply → ℕ
reply_number p = p.refusal + 4294967296 * p.taken + 8589934592 * p.halt

-- an answer that is handed over as one number: the refusal, above it whether the event was taken, above that whether the channel is to halt
abbrev reply_of : ℕ → PortReply
reply_of n = port_reply (n % 4294967296) (n / 4294967296 % 2) (n / 8589934592)

pub reply_read : (p : PortReply) → p.refusal < 4294967296 → p.taken ≤ 1 → p.halt ≤ 1 → reply_of (reply_number p) ≡ p
reply_read p few taken halt =
    let n : ℕ = reply_number p in
    let first : n % 4294967296 ≡ p.refusal = omega arith in
    let flags : n / 4294967296 ≡ p.taken + 2 * p.halt = omega arith in
    let second : n / 4294967296 % 2 ≡ p.taken =
    ap (λ (k : ℕ). k % 2) flags ∙ add-mul-mod_self_left p.taken 2 p.halt ∙ mod-eq_of_lt (omega arith) in
    let third : n / 8589934592 ≡ p.halt = omega arith in
    ap₂ (λ (a b : ℕ). port_reply a b (n / 8589934592)) first second ∙ ap (port_reply p.refusal p.taken) third

-- ---- a verdict as one number, the packets of good bytes: what it was read as, and what it told

pub record Verdict : Type 0 where
  pub refusal : ℕ
  pub bad : Bool
  pub all : ℕ
  pub pending : ℕ

abbrev good_number : ℕ → ℕ → ℕ
good_number all pending = all + 65536 * pending

abbrev good_verdict : ℕ → ℕ → Verdict
good_verdict all pending = record { refusal = 0; bad = false; all = all; pending = pending }

abbrev not_good : ℕ → Verdict
not_good refusal = record { refusal = refusal; bad = true; all = 0; pending = 0 }

abbrev verdict_of : ℕ → Verdict
verdict_of v =
    cond (eqb (v / 4294967296) 0) (good_verdict (v % 65536) (v / 65536))
    (cond (eqb (v / 4294967296) 1) (not_good 0) (not_good (v / 4294967296 % 65536)))

pub record Told (xs : List ℕ) (r : Verdict) : Type 0 where
  pub refusal : r.refusal ≡ layout_number xs
  pub bad : layout_number xs ≡ 0 → r.bad ≡ is_bad_record (session_of xs)
  pub all : r.bad ≡ false → r.all ≡ all_packets (session_of xs)
  pub pending : r.bad ≡ false → r.pending ≡ pending_packets (session_of xs)

good_read : (all pending : ℕ) → all ≤ 1024 → pending ≤ 1024 → verdict_of (good_number all pending) ≡ good_verdict all pending
good_read all pending a p =
    let n : ℕ = good_number all pending in
    let none : n / 4294967296 ≡ 0 = omega arith in
    let first : n % 65536 ≡ all = omega arith in
    let second : n / 65536 ≡ pending = omega arith in
    ap (λ (b : Bool). cond b (good_verdict (n % 65536) (n / 65536)) (cond (eqb (n / 4294967296) 1) (not_good 0) (not_good (n / 4294967296 % 65536))))
    (eq-eqb (n / 4294967296) 0 none)
    ∙ ap₂ good_verdict first second

module _ (xs : List ℕ) (long : 8488 ≤ length xs) where
  number_is : layout_number xs ≡ cond (is_bad_layout xs) 18 0
  number_is = ap (λ (b : Bool). cond b 17 (cond (is_bad_layout xs) 18 0)) (le-ltb (length xs) 8488 long)

  -- bytes that pass both checks
  both_pass : is_unsound xs ≡ false → (0 ≡ layout_number xs) × (false ≡ is_bad_record (session_of xs))
  both_pass good =
      let two = neither (is_bad_layout xs) (is_bad_record (session_of xs)) good in (
        sym (number_is ∙ ap (λ (x : Bool). cond x 18 0) two.0),
        sym two.1,
      )

  passed_number :
      {all pending v : ℕ} → is_unsound xs ≡ false → all ≡ all_packets (session_of xs) → pending ≡ pending_packets (session_of xs)
      → v ≡ good_number all pending
      → Told xs (verdict_of v)
  passed_number {all} {pending} good ea ep ev =
      let two = both_pass good in
      let s : IsoChannelState = session_of xs in
      let g = sound s (requests_many xs) (plans_many xs) (sym two.1) in
      let parts = packets_split s.head.done s.head.count s.requests g.done_in (omega (arith, g.count_in, g.requests_long)) in
      let few : all ≤ 1024 = omega (arith, ea, g.all_few) in
      let fewer : pending ≤ 1024 = omega (arith, ea, ep, parts, few) in
      subst⁻¹ (Told xs) (ap verdict_of ev ∙ good_read all pending few fewer)
      (record { refusal = two.0; bad = λ z. two.1; all = λ h. ea; pending = λ h. ep })
