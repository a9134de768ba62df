-- How long a session's parts are; and that an idle session written part by part is its bytes.
use Rattle.std.proofs.Common.{◌≡◌, ℕ, zero, suc, ◌+◌, ◌*◌, List, ◌++◌, length, replicate, sym, refl, ap, ◌∙◌, ap₂, arith, length-append}
use lib.ListN.{replicate-append-replicate}
use lib.Seq.{sets}
use Rattle.session.specs.declared.types.IsoConfig.{IsoConfig}
use Rattle.session.specs.declared.types.IsoChannelState.{IsoChannelState}
use Rattle.session.specs.Session.{blank_request, blank_plan, idle_session}
use Rattle.port.specs.Bytes.{u16_bytes, u32_bytes, u64_bytes, zeros}
use Rattle.port.specs.Tags.{tagged_bytes}
use Rattle.port.specs.Layout.{mark_bytes, config_bytes, head_bytes, request_bytes, plan_bytes, table_bytes, front, saved}
use Rattle.port.proofs.Laws.Runs.{then}
use Rattle.port.proofs.Laws.Entries.{length_request}
use Rattle.port.proofs.Laws.Tables.{length_bytes}

pub length_front : (s : IsoChannelState) → length (front s) ≡ 40
unfolding front mark_bytes config_bytes head_bytes tagged_bytes u64_bytes u32_bytes u16_bytes
length_front s = refl

pub length_requests : (s : IsoChannelState) → length s.requests ≡ 64 → length (front s ++ table_bytes request_bytes s.requests) ≡ 1320
length_requests s h =
    length-append (front s) (table_bytes request_bytes s.requests)
    ∙ omega (arith, length_front s, length_bytes request_bytes 20 s.requests length_request)

-- a table of entries whose bytes are zeros
table_zero : {A : Type 0} (f : A → List ℕ) (w : ℕ) (a : A) → f a ≡ replicate w 0 → (n : ℕ) → table_bytes f (replicate n a) ≡ replicate (n * w) 0
unfolding table_bytes
table_zero f w a e zero = let none : 0 ≡ zero * w = omega arith in ap (λ (k : ℕ). replicate k 0) none
table_zero f w a e (suc n) =
    let on : w + n * w ≡ suc n * w = omega arith in
    ap₂ ◌++◌ e (table_zero f w a e n) ∙ replicate-append-replicate w (n * w) 0 ∙ ap (λ (k : ℕ). replicate k 0) on

-- An idle session's bytes: mark, configuration and numbers, and zeros.
idle_saved : (cfg : IsoConfig) → saved (idle_session cfg) ≡ (mark_bytes ++ config_bytes cfg ++ head_bytes (idle_session cfg).head) ++ zeros 8454
unfolding zeros saved front mark_bytes config_bytes head_bytes tagged_bytes request_bytes plan_bytes u64_bytes u32_bytes u16_bytes
idle_saved cfg =
    ap (λ (tables : List ℕ). front (idle_session cfg) ++ tables)
    (ap₂ ◌++◌ (table_zero request_bytes 20 blank_request refl 64) (table_zero plan_bytes 7 blank_plan refl 1024) ∙ replicate-append-replicate 1280 7168 0)

pub idle_put :
    (xs : List ℕ) {a b c d : List ℕ} (cfg : IsoConfig)
    → a ≡ sets xs 0 mark_bytes
    → b ≡ sets a 5 (config_bytes cfg)
    → c ≡ sets b 15 (head_bytes (idle_session cfg).head)
    → d ≡ sets c 34 (zeros 8454)
    → d ≡ sets xs 0 (saved (idle_session cfg))
unfolding mark_bytes config_bytes head_bytes u64_bytes u32_bytes u16_bytes
idle_put xs cfg p q r z =
    let mark : List ℕ = mark_bytes in
    let config : List ℕ = config_bytes cfg in
    let head : List ℕ = head_bytes (idle_session cfg).head in
    then xs 0 34 (mark ++ config ++ head) (zeros 8454)
    (then xs 0 15 (mark ++ config) head (then xs 0 5 mark config p refl q) refl r) refl z
    ∙ ap (sets xs 0) (sym (idle_saved cfg))
