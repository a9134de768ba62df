-- Document 01, "Worked numbers": what 01 says beside what the definitions give, one row for each P.
use Rattle.std.specs.Prelude.{ℕ, ◌*◌, false, List, [], ◌∷◌, ◌++◌, map, length, get_or, replicate}
use Rattle.words.specs.declared.types.Direction.TheVariants.{Out}
use Rattle.ring.specs.RingSums.{schinfo, capacity, starting_frame, frame_slot, grid_slot}
use Rattle.ring.specs.declared.speed.Speed.TheVariants.{High, Full}
use Rattle.plan.specs.Planning.{lengths}
use Rattle.plan.specs.DataStages.{data_stages}
use Rattle.plan.specs.declared.types.DataKind.TheVariants.{Bulk}
use Rattle.plan.specs.declared.types.DataRequest.{DataRequest}
use Rattle.session.specs.Numbers.{submit_number}
use Rattle.session.specs.Session.{idle_session}
use Rattle.session.specs.Submit.{submitted, submitted_ring}
use Rattle.session.specs.declared.types.IsoMode.TheVariants.{Compatible, Guarded}
use Rattle.worked.specs.Camera.{camera_config, camera_transfer, slots_in_use, pending_session}

pub record Row : Type 0 where
  pub says : List ℕ
  pub gives : List ℕ

infix 60 ◌⊜◌
abbrev pub ◌⊜◌ : List ℕ → List ℕ → Row
says ⊜ gives = record { says = says; gives = gives }

-- "P1 SCHINFO, high speed, intervals 0, 1, 2, 3, 4, 8: 255, 255, 85, 73, 17, 1."
abbrev pub p1 : Row
p1 = (255 ∷ 255 ∷ 85 ∷ 73 ∷ 17 ∷ 1 ∷ []) ⊜ map (schinfo High) (0 ∷ 1 ∷ 2 ∷ 3 ∷ 4 ∷ 8 ∷ [])

-- "P2 capacity: high speed 1, 6, 128, 256: 255, 127, 1, 0."
abbrev pub p2 : Row
p2 = (255 ∷ 127 ∷ 1 ∷ 0 ∷ []) ⊜ map (λ i. capacity i 256) (1 ∷ 6 ∷ 128 ∷ 256 ∷ [])

-- "P3 start, high speed, raw 4, 5, 4,294,967,295: 1, 2, 1; full speed 65,534: 0."
abbrev pub p3 : Row
p3 = (1 ∷ 2 ∷ 1 ∷ 0 ∷ []) ⊜ (starting_frame High 4 ∷ starting_frame High 5 ∷ starting_frame High 4_294_967_295 ∷ starting_frame Full 65_534 ∷ [])

-- "P4 slot: high 31, 32: 248, 0; full 64: 0."
abbrev pub p4 : Row
p4 = (248 ∷ 0 ∷ 0 ∷ []) ⊜ (frame_slot High 31 ∷ frame_slot High 32 ∷ frame_slot Full 64 ∷ [])

-- "P5 grid, interval 4, R 64: (c 5, t 16) 17; (2, 63) 2; (3, 63) 63."
abbrev pub p5 : Row
p5 = (17 ∷ 2 ∷ 63 ∷ []) ⊜ (grid_slot 5 16 4 64 ∷ grid_slot 2 63 4 64 ∷ grid_slot 3 63 4 64 ∷ [])

-- "P6 full speed, interval 1, pending slots 10 and 11 served, cursor 12, raw 71, two packets: the crate writes 9 and 10; guarded answers 13."
-- A served slot is shown with a status of zero, so what is in use after the call is what the call wrote.
abbrev pub p6 : Row
p6 =
    (9 ∷ 10 ∷ 13 ∷ [])
    ⊜ (slots_in_use 0 (submitted_ring (pending_session Compatible) (camera_transfer 71 384) (192 ∷ 192 ∷ []) (replicate 128 0))
    ++ submit_number (submitted (pending_session Guarded) (camera_transfer 71 384) (192 ∷ 192 ∷ []) (replicate 128 0)).answer
    ∷ [])

-- a bulk OUT of so many bytes in packets of 512
abbrev pub disk_request : ℕ → DataRequest
disk_request len =
    record {
      kind = Bulk;
      direction = Out;
      port_speed = High;
      device = 1;
      endpoint = 2;
      max_packet_size = 512;
      odd_frame = false;
      toggle = record { 0 = false };
      base = 0;
      len = len;
    }

-- "P7 m 512: 0 gives [0]; 130,560 one chunk; 130,561 gives [130,560, 1]; 33,423,360 one stage, one byte more two."
abbrev pub p7 : Row
p7 =
    (0 ∷ 130_560 ∷ 130_560 ∷ 1 ∷ 1 ∷ 2 ∷ [])
    ⊜ (lengths 0 512 ++ lengths 130_560 512 ++ lengths 130_561 512 ++ map (λ len. length (data_stages (disk_request len))) (33_423_360 ∷ 33_423_361 ∷ []))

-- the ring after P8's call
abbrev pub p8_ring : List ℕ
p8_ring = submitted_ring (idle_session (camera_config High 8 Compatible)) (camera_transfer 16 576) (192 ∷ 192 ∷ 192 ∷ []) (replicate 512 0)

-- "P8 high speed, interval 8, both readings 16, three packets of 192: slots 24, 32, 40, cursor 48, status 0x800000C0 twice, then 0x820000C0."
abbrev pub p8 : Row
p8 =
    (24 ∷ 32 ∷ 40 ∷ 48 ∷ 2_147_483_840 ∷ 2_147_483_840 ∷ 2_181_038_272 ∷ [])
    ⊜ (slots_in_use 0 p8_ring
    ++ (submitted (idle_session (camera_config High 8 Compatible)) (camera_transfer 16 576) (192 ∷ 192 ∷ 192 ∷ []) (replicate 512 0)
    ).session.head.td_last
    ∷ map (λ slot. get_or p8_ring (2 * slot) 0) (24 ∷ 32 ∷ 40 ∷ []))

abbrev pub table : List Row
table = p1 ∷ p2 ∷ p3 ∷ p4 ∷ p5 ∷ p6 ∷ p7 ∷ p8 ∷ []
