-- A run that meets demand 3's hypotheses: a camera at full speed, interval 1, with two requests pending, the last packet of them served, and a third
-- request to be stopped. The states that it comes to are written out.
use Rattle.std.specs.Prelude.{true, None, List, [], ◌∷◌, ◌++◌, ℕ, ◌+◌, ◌-◌, length, replicate}
use Rattle.words.specs.declared.types.Direction.TheVariants.{In}
use Rattle.ring.specs.declared.speed.Speed.TheVariants.{Full}
use Rattle.session.specs.declared.types.IsoMode.TheVariants.{Guarded}
use Rattle.session.specs.declared.types.IsoConfig.{IsoConfig}
use Rattle.session.specs.declared.types.IsoRequest.{IsoRequest}
use Rattle.session.specs.declared.types.IsoChannelState.{IsoChannelState}
use Rattle.session.specs.declared.transfer.IsoTransfer.{IsoTransfer}
use Rattle.session.specs.Session.{blank_request, blank_plan}
use Rattle.session.specs.Place.{plans_from}
use Rattle.session.specs.Submit.{new_request}
use Rattle.laws.specs.Drawing.{Laid, drawn, planned_from}
use Rattle.laws.specs.Run.{State, Step, Submit, Controller}

abbrev pub camera : IsoConfig
camera = record { speed = Full; direction = In; interval = 1; endpoint = 1; device = 1; max_packet_size = 192; mult = 1; mode = Guarded }

-- a ring that is not zero when it is lent
abbrev pub lent : List ℕ
lent = replicate 128 7

-- both readings and the buffer: its base and so many bytes
abbrev pub transfer : ℕ → ℕ → ℕ → IsoTransfer
transfer reading base n =
    record {
      isochronous = true;
      has_buffer = true;
      buffer_len = n;
      base = base;
      start_reading = reading;
      frame_reading = reading;
      channel_free = true;
      gate_program = true;
      gate_enable = true;
      words = 2048;
    }

-- two requests, of two packets and of one; then the controller serves the last of them
abbrev pub submit_first : Step
submit_first = Submit (transfer 8 4096 384) (192 ∷ 192 ∷ []) []

abbrev pub submit_second : Step
submit_second = Submit (transfer 8 4096 100) (100 ∷ []) []

abbrev pub serve_last : Step
serve_last = Controller (record { slot = 12; word = 0 })

abbrev pub steps : List Step
steps = submit_first ∷ submit_second ∷ serve_last ∷ []

-- the third request: since the last descriptor is inactive it goes by the grid, to slots 8 and 9
abbrev pub third : IsoTransfer
third = transfer 70 0 384

-- ---- the states that it comes to

-- after these requests, their plans being of these lengths from slot 10 on
abbrev pub session : ℕ → List IsoRequest → List ℕ → IsoChannelState
session number requests lengths =
    record {
      cfg = camera;
      head = record { next_request_id = number; live = true; td_last = 10 + length lengths; start_full_frame = 10; done = 0; count = length requests };
      fatal = None;
      requests = requests ++ replicate (64 - length requests) blank_request;
      plans = plans_from 64 10 1 0 lengths ++ replicate (1024 - length lengths) blank_plan;
    }

abbrev pub zeros : List ℕ
zeros = replicate 128 0

-- what the two requests lay
abbrev pub first : List Laid
first = planned_from 64 10 1 0 4096 (192 ∷ 192 ∷ [])

abbrev pub second : List Laid
second = planned_from 64 12 1 0 4096 (100 ∷ [])

abbrev pub one : State
one = record { session = session 2 (new_request 1 2 ∷ []) (192 ∷ 192 ∷ []); ring = drawn first zeros; put = first; numbers = 1 ∷ [] }

abbrev pub two : State
two =
    record {
      session = session 3 (new_request 1 2 ∷ new_request 2 1 ∷ []) (192 ∷ 192 ∷ 100 ∷ []);
      ring = drawn (first ++ second) zeros;
      put = first ++ second;
      numbers = 2 ∷ 1 ∷ [];
    }

-- what the controller left of the second
abbrev pub served : List Laid
served = record { slot = 12; address = 4096; status = 0 } ∷ []

abbrev pub three : State
three = record { session = two.session; ring = drawn (first ++ served) zeros; put = first ++ served; numbers = 2 ∷ 1 ∷ [] }
