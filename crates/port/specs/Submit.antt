-- A submission on the bytes of a session: the session as it is between the packets and the numbers.
use Rattle.std.specs.Prelude.{ℕ, List}
use Rattle.session.specs.declared.types.IsoChannelState.{IsoChannelState}
use Rattle.session.specs.declared.transfer.SubmitParts.{SubmitParts}
use Rattle.session.specs.Scan.{whole}
use Rattle.session.specs.Parts.{requests_with, plans_with, joined}
use Rattle.port.specs.Layout.{session_of, requests_in, plans_in}
use Rattle.port.specs.Places.{Kept}

-- with the packets that are added, and its numbers as they were
abbrev pub grown : IsoChannelState → SubmitParts → List ℕ → IsoChannelState
grown s r lengths = whole s.cfg s.head s.fatal (requests_with s r.added) (plans_with s r lengths)

-- all entries that the submission's session has in use were written
abbrev pub Grown : List ℕ → List ℕ → SubmitParts → List ℕ → Type 0
Grown xs ys r lengths =
    Kept (requests_in (joined (session_of xs) r lengths).session) (plans_in (joined (session_of xs) r lengths).session) xs ys (grown (session_of xs) r lengths)
