-- What P6 and P8 of document 01 are about: a camera's session, its requests, and what stands on its ring.
use Rattle.std.specs.Prelude.{ℕ, zero, suc, true, None, List, [], ◌∷◌, ◌++◌, replicate}
use Rattle.words.specs.declared.types.Direction.TheVariants.{In}
use Rattle.ring.specs.declared.speed.Speed.{Speed}
use Rattle.ring.specs.declared.speed.Speed.TheVariants.{Full}
use Rattle.session.specs.Session.{blank_request, blank_plan}
use Rattle.session.specs.Place.{plans_from}
use Rattle.session.specs.Submit.{new_request}
use Rattle.session.specs.declared.types.IsoConfig.{IsoConfig}
use Rattle.session.specs.declared.types.IsoMode.{IsoMode}
use Rattle.session.specs.declared.types.IsoChannelState.{IsoChannelState}
use Rattle.session.specs.declared.transfer.IsoTransfer.{IsoTransfer}

-- a camera's endpoint
abbrev pub camera_config : Speed → ℕ → IsoMode → IsoConfig
camera_config speed interval mode =
    record {
      speed = speed;
      direction = In;
      interval = interval;
      endpoint = 1;
      device = 1;
      max_packet_size = 192;
      mult = 1;
      mode = mode;
    }

-- a request of so many bytes, both readings the same, nothing in its way and every word stored
abbrev pub camera_transfer : ℕ → ℕ → IsoTransfer
camera_transfer reading bytes =
    record {
      isochronous = true;
      has_buffer = true;
      buffer_len = bytes;
      base = 4096;
      start_reading = reading;
      frame_reading = reading;
      channel_free = true;
      gate_program = true;
      gate_enable = true;
      words = 2048;
    }

-- 1 for a status word that is not zero
abbrev pub use_mark : ℕ → ℕ
use_mark zero = 0
use_mark (suc status) = 1

-- the slots of a ring, from slot n on, whose status word is not zero
abbrev pub slots_in_use : ℕ → List ℕ → List ℕ
slots_in_use n [] = []
slots_in_use n (status ∷ []) = []
slots_in_use n (zero ∷ address ∷ rest) = slots_in_use (suc n) rest
slots_in_use n (suc status ∷ address ∷ rest) = n ∷ slots_in_use (suc n) rest

-- one request pending, of two packets in slots 10 and 11, the cursor behind them
abbrev pub pending_session : IsoMode → IsoChannelState
pending_session mode =
    record {
      cfg = camera_config Full 1 mode;
      head = record { next_request_id = 2; live = true; td_last = 12; start_full_frame = 10; done = 0; count = 1 };
      fatal = None;
      requests = new_request 1 2 ∷ replicate 63 blank_request;
      plans = plans_from 64 10 1 0 (192 ∷ 192 ∷ []) ++ replicate 1022 blank_plan;
    }
