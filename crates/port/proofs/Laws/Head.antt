-- The head of a session's bytes, field by field.
use Rattle.std.proofs.Common.{◌≡◌, ℕ, ◌+◌, ◌*◌, ◌<◌, Bool, false, not, ◌||◌, eqb, ltb, List, [], ◌∷◌, ◌++◌, drop, sym, refl, ap, ◌∙◌, subst, ap₂, arith, eq-eqb, eqb-true}
use lib.Seq.{sets}
use borrow.Author.Tests.{not-false}
use Rattle.words.proofs.Laws.Tests.{neither}
use Rattle.session.proofs.Laws.Tests.{none}
use Rattle.ring.specs.declared.speed.Speed.{Speed}
use Rattle.words.specs.declared.types.Direction.{Direction}
use Rattle.session.specs.declared.types.IsoMode.{IsoMode}
use Rattle.session.specs.declared.types.IsoConfig.{IsoConfig}
use Rattle.session.specs.declared.types.IsoHead.{IsoHead}
use Rattle.port.specs.declared.tags.Tagged.{Tagged}
use Rattle.port.specs.Bytes.{byte_of, u16_of, u32_of, u64_of, u16_bytes, u32_bytes, u64_bytes}
use Rattle.port.specs.Tags.{speed_tag, speed_of, direction_tag, direction_of, mode_tag, mode_of, flag_tag, tagged_of, is_bad_tagged}
use Rattle.port.specs.Layout.{mark_bytes, config_bytes, config_of, head_bytes, head_of, is_bad_mark, is_bad_head}
use Rattle.port.proofs.Laws.Entries.{field, pair}
use Rattle.port.proofs.Laws.Kept.{Octets, octets_drop, byte_small}
use Rattle.port.proofs.Laws.Runs.{then}
use Rattle.port.proofs.Laws.Scans.{same_tests}

abbrev pub config : Speed → Direction → ℕ → ℕ → ℕ → ℕ → ℕ → IsoMode → IsoConfig
config speed direction interval endpoint device size mult mode =
    record {
      speed = speed;
      direction = direction;
      interval = interval;
      endpoint = endpoint;
      device = device;
      max_packet_size = size;
      mult = mult;
      mode = mode;
    }

pub config_at :
    (xs : List ℕ) {a b c : ℕ} {speed : Speed} {direction : Direction} {mode : IsoMode} {interval endpoint device size mult : ℕ}
    → a ≡ byte_of (drop 5 xs)
    → speed ≡ speed_of a
    → b ≡ byte_of (drop 6 xs)
    → direction ≡ direction_of b
    → interval ≡ u16_of (drop 8 xs)
    → endpoint ≡ byte_of (drop 12 xs)
    → device ≡ byte_of (drop 13 xs)
    → size ≡ u16_of (drop 10 xs)
    → mult ≡ byte_of (drop 14 xs)
    → c ≡ byte_of (drop 7 xs)
    → mode ≡ mode_of c
    → config speed direction interval endpoint device size mult mode ≡ config_of xs
unfolding config_of
config_at xs ea es eb ed ei ee ev ez eu ec em = rw (es, ea, ed, eb, ei, ee, ev, ez, eu, em, ec)

abbrev pub head : ℕ → Bool → ℕ → ℕ → ℕ → ℕ → IsoHead
head next live cursor start done count =
    record { next_request_id = next; live = live; td_last = cursor; start_full_frame = start; done = done; count = count }

pub head_at :
    (xs : List ℕ) {a next cursor start done count : ℕ}
    → next ≡ u64_of (drop 16 xs)
    → a ≡ byte_of (drop 15 xs)
    → cursor ≡ u16_of (drop 28 xs)
    → start ≡ u32_of (drop 24 xs)
    → done ≡ u16_of (drop 30 xs)
    → count ≡ u16_of (drop 32 xs)
    → head next (not (eqb a 0)) cursor start done count ≡ head_of xs
unfolding head_of
head_at xs en ea ec es ed eo = rw (en, ea, ec, es, ed, eo)

is : {m n : ℕ} → not (eqb m n) ≡ false → m ≡ n
is {m} {n} e = eqb-true m n (not-false (eqb m n) e)

pub are : (m n : ℕ) → m ≡ n → not (eqb m n) ≡ false
are m n e = ap not (eq-eqb m n e)

pub bad_mark_at :
    (xs : List ℕ) {a b c v : ℕ} → a ≡ byte_of xs → b ≡ byte_of (drop 1 xs) → c ≡ byte_of (drop 2 xs) → v ≡ u16_of (drop 3 xs)
    → (not (eqb a 68) || (not (eqb b 87) || (not (eqb c 83) || not (eqb v 1)))) ≡ is_bad_mark xs
unfolding is_bad_mark
bad_mark_at xs ea eb ec ev = rw (ea, eb, ec, ev)

pub bad_head_at :
    (xs : List ℕ) {a b c d : ℕ} {t : Tagged} {e : Bool}
    → a ≡ byte_of (drop 5 xs)
    → b ≡ byte_of (drop 6 xs)
    → c ≡ byte_of (drop 7 xs)
    → d ≡ byte_of (drop 15 xs)
    → t ≡ tagged_of (drop 34 xs)
    → e ≡ is_bad_tagged 2 2 t
    → (ltb 2 a || (ltb 1 b || (ltb 1 c || (ltb 1 d || e)))) ≡ is_bad_head xs
unfolding is_bad_head
bad_head_at xs {a} {b} {c} {d} ea eb ec ed et ee =
    ap (λ (x : Bool). ltb 2 a || (ltb 1 b || (ltb 1 c || (ltb 1 d || x)))) (ee ∙ ap (is_bad_tagged 2 2) et) ∙ rw (ea, eb, ec, ed)

-- four bytes of the mark as one number, and the fifth
pub unmarked_at :
    (xs : List ℕ) {a b c d e : ℕ} → a ≡ byte_of xs → b ≡ byte_of (drop 1 xs) → c ≡ byte_of (drop 2 xs) → d ≡ byte_of (drop 3 xs) → e ≡ byte_of (drop 4 xs)
    → a < 256 → b < 256 → c < 256 → d < 256 → e < 256
    → (not (eqb (a + 256 * b + 65536 * (c + 256 * d)) 22239044) || not (eqb e 0)) ≡ is_bad_mark xs
unmarked_at xs {a} {b} {c} {d} {e} ea eb ec ed ee la lb lc ld le =
    same_tests to from
    ∙ bad_mark_at xs ea eb ec (ap₂ (λ (m n : ℕ). m + 256 * n) ed (ee ∙ field byte_of 1 3 xs) ∙ sym (pair (drop 3 xs)))
  where
    to : (not (eqb (a + 256 * b + 65536 * (c + 256 * d)) 22239044) || not (eqb e 0)) ≡ false
        → (not (eqb a 68) || (not (eqb b 87) || (not (eqb c 83) || not (eqb (d + 256 * e) 1)))) ≡ false
    to h =
        let two = neither (not (eqb (a + 256 * b + 65536 * (c + 256 * d)) 22239044)) (not (eqb e 0)) h in
        let low : a + 256 * b + 65536 * (c + 256 * d) ≡ 22239044 = is two.0 in
        let high : e ≡ 0 = is two.1 in
        none (are a 68 (omega arith)) (none (are b 87 (omega arith)) (none (are c 83 (omega arith)) (are (d + 256 * e) 1 (omega arith))))

    from : (not (eqb a 68) || (not (eqb b 87) || (not (eqb c 83) || not (eqb (d + 256 * e) 1)))) ≡ false
        → (not (eqb (a + 256 * b + 65536 * (c + 256 * d)) 22239044) || not (eqb e 0)) ≡ false
    from h =
        let one = neither (not (eqb a 68)) (not (eqb b 87) || (not (eqb c 83) || not (eqb (d + 256 * e) 1))) h in
        let two = neither (not (eqb b 87)) (not (eqb c 83) || not (eqb (d + 256 * e) 1)) one.1 in
        let three = neither (not (eqb c 83)) (not (eqb (d + 256 * e) 1)) two.1 in
        let x : a ≡ 68 = is one.0 in
        let y : b ≡ 87 = is two.0 in
        let z : c ≡ 83 = is three.0 in
        let v : d + 256 * e ≡ 1 = is three.1 in
        none (are (a + 256 * b + 65536 * (c + 256 * d)) 22239044 (omega arith)) (are e 0 (omega arith))

pub unmarked_by :
    (xs : List ℕ) {n e : ℕ} → Octets xs → n ≡ u32_of xs → e ≡ byte_of (drop 4 xs) → (not (eqb n 22239044) || not (eqb e 0)) ≡ is_bad_mark xs
unfolding u32_of
unmarked_by xs {n} {e} octets en ee =
    let small = λ (k : ℕ). byte_small (drop k xs) (octets_drop k xs octets) in
    let high : u16_of (drop 2 xs) ≡ byte_of (drop 2 xs) + 256 * byte_of (drop 3 xs) =
    pair (drop 2 xs) ∙ ap (λ (k : ℕ). byte_of (drop 2 xs) + 256 * k) (sym (field byte_of 1 2 xs)) in
    let whole : n ≡ byte_of xs + 256 * byte_of (drop 1 xs) + 65536 * (byte_of (drop 2 xs) + 256 * byte_of (drop 3 xs)) =
    en ∙ ap₂ (λ (a b : ℕ). a + 65536 * b) (pair xs) high in
    ap (λ (k : ℕ). not (eqb k 22239044) || not (eqb e 0)) whole
    ∙ unmarked_at xs refl refl refl refl ee (byte_small xs octets) (small 1) (small 2) (small 3)
    (subst (λ (k : ℕ). k < 256) (sym ee) (small 4))

-- ---- writing

pub mark_put : (xs : List ℕ) {a b : List ℕ} → a ≡ sets xs 0 (68 ∷ 87 ∷ 83 ∷ []) → b ≡ sets a 3 (u16_bytes 1) → b ≡ sets xs 0 mark_bytes
unfolding mark_bytes
mark_put xs p q = then xs 0 3 (68 ∷ 87 ∷ 83 ∷ []) (u16_bytes 1) p refl q

pub config_put :
    (xs : List ℕ) {a b c d : List ℕ} (cfg : IsoConfig) {speed direction mode : ℕ}
    → speed ≡ speed_tag cfg.speed
    → direction ≡ direction_tag cfg.direction
    → mode ≡ mode_tag cfg.mode
    → a ≡ sets xs 5 (speed ∷ direction ∷ mode ∷ [])
    → b ≡ sets a 8 (u16_bytes cfg.interval)
    → c ≡ sets b 10 (u16_bytes cfg.max_packet_size)
    → d ≡ sets c 12 (cfg.endpoint ∷ cfg.device ∷ cfg.mult ∷ [])
    → d ≡ sets xs 5 (config_bytes cfg)
unfolding config_bytes u16_bytes
config_put xs cfg {speed} {direction} es ed em p q r s =
    let tags : List ℕ = speed_tag cfg.speed ∷ direction_tag cfg.direction ∷ mode_tag cfg.mode ∷ [] in
    let same : speed ∷ direction ∷ _ ∷ [] ≡ tags =
    ap (λ (n : ℕ). speed ∷ direction ∷ n ∷ []) em
    ∙ ap (λ (n : ℕ). speed ∷ n ∷ mode_tag cfg.mode ∷ []) ed
    ∙ ap (λ (n : ℕ). n ∷ direction_tag cfg.direction ∷ mode_tag cfg.mode ∷ []) es in
    let interval : List ℕ = u16_bytes cfg.interval in
    let size : List ℕ = u16_bytes cfg.max_packet_size in
    then xs 5 12 (tags ++ interval ++ size) (cfg.endpoint ∷ cfg.device ∷ cfg.mult ∷ [])
    (then xs 5 10 (tags ++ interval) size (then xs 5 8 tags interval (p ∙ ap (sets xs 5) same) refl q) refl r) refl s

pub head_put :
    (xs : List ℕ) {a b c d e f : List ℕ} (h : IsoHead) {live : ℕ}
    → live ≡ flag_tag h.live
    → a ≡ sets xs 15 (live ∷ [])
    → b ≡ sets a 16 (u64_bytes h.next_request_id)
    → c ≡ sets b 24 (u32_bytes h.start_full_frame)
    → d ≡ sets c 28 (u16_bytes h.td_last)
    → e ≡ sets d 30 (u16_bytes h.done)
    → f ≡ sets e 32 (u16_bytes h.count)
    → f ≡ sets xs 15 (head_bytes h)
unfolding head_bytes u64_bytes u32_bytes u16_bytes
head_put xs h el p q r s t u =
    let live : List ℕ = flag_tag h.live ∷ [] in
    let next : List ℕ = u64_bytes h.next_request_id in
    let start : List ℕ = u32_bytes h.start_full_frame in
    let cursor : List ℕ = u16_bytes h.td_last in
    let done : List ℕ = u16_bytes h.done in
    let one : _ ≡ sets xs 15 live = p ∙ ap (λ (n : ℕ). sets xs 15 (n ∷ [])) el in
    let two : _ ≡ sets xs 15 (live ++ next ++ start) = then xs 15 24 (live ++ next) start (then xs 15 16 live next one refl q) refl r in
    let three : _ ≡ sets xs 15 (live ++ next ++ start ++ cursor ++ done) =
    then xs 15 30 (live ++ next ++ start ++ cursor) done (then xs 15 28 (live ++ next ++ start) cursor two refl s) refl t in
    then xs 15 32 (live ++ next ++ start ++ cursor ++ done) (u16_bytes h.count) three refl u
