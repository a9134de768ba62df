-- Plans, a direction and a table of plans as the machine holds them: their types and machine values, and that a table in a local comes apart into
-- what stands before a part, the part and what stands behind it, and is whole again with other plans in the part. No proof cites it.
use mathlib.Core.Path.{◌≡◌, refl, sym, ◌∙◌, ap}
use mathlib.Core.List.{List, [], ◌∷◌, ◌++◌}
use Prim.Native.Nat.{ℕ, ◌+◌, ◌*◌, ◌≤◌}
use lib.Dec.{T}
use lib.ListN.{length, take, drop as past, take-append-drop}
use lib.Seq.{slice, sets, length-sets}
use seplogic.Ra.Ura.{Ura}
use base.Fraction.{full_share}
use mir.Syntax.{Lifetime, Ty, mut, ty_array, ty_ref}
use mir.Val.{Val, WT, has_ty}
use base.Logic.{ent, sep, guard}
use base.Fml.{Fml, fsep, fat}
use types.Logic.{Logic, sem}
use types.Kit.{‵, ◌⊛◌, ◌$◌, ◌∵◌, !, qed, move, drop, use1, use2, split, check, rewrite, fsplit, fjoin, fpick, fpack, feq_i, done}
use types.SemTy.{cells}
use types.Share.{arr_parts}
use denote.RattleType.{RattleType}
use denote.Memory.{mem, cell_at, part_at, shares, pointee, part_of}
use denote.Laws.{Is, Tells, Makes, shows}
use denote.Array.{Array, array_vals, Array-Tells, Array-Lawful, Array-Makes}
use denote.ArrayMemory.{Array-apart, Array-whole}
use denote.Slice.{slice_ty}
use denote.Index.{row, whole_in, whole_out}
use denote.Steps.{only, owned, facts}
use denote.Struct.Steps.{spelt}
use denote.Struct.Laws as LL
use denote.Enum.Laws as EL
use borrow.Table.Elements.{at, at_mul, cut_app, join_app}
use Rattle.words.specs.declared.types.Direction.{Direction}
use Rattle.words.specs.contracts.types.Direction as D
use Rattle.words.proofs.types.Direction.TheLaws as D'
use Rattle.session.specs.declared.types.IsoPacketPlan.{IsoPacketPlan}
use Rattle.session.specs.contracts.types.IsoPacketPlan as P
use Rattle.session.proofs.types.IsoPacketPlan.TheLaws as P'
use Rattle.session.proofs.Laws.Lists.{before_part, part_fits, part_stored}

-- the types of a plan, a direction and a table, and the same as MIR has them; the last is a slice of plans that is lent by `&mut`
abbrev pub PlanT : RattleType
PlanT = P.the_row

abbrev pub WayT : RattleType
WayT = D.the_row

abbrev pub TableT : RattleType
TableT = Array PlanT 1024

abbrev pub plan_ty : Ty
plan_ty = P'.mir

abbrev pub way_ty : Ty
way_ty = D'.mir

abbrev pub table_ty : Ty
table_ty = ty_array plan_ty 1024

abbrev pub lent_ty : Lifetime → Ty
lent_ty ℓ = slice_ty (ty_ref ℓ mut (pointee PlanT.written))

-- their machine values
abbrev pub plan_vals : IsoPacketPlan → List Val
plan_vals = LL.vals P.the_type P'.the_laws

abbrev pub way_vals : Direction → List Val
way_vals = EL.vals D.the_type D'.the_laws

abbrev pub way_val : Direction → Val
way_val = EL.val D.the_type D'.the_laws

abbrev pub table_vals : List IsoPacketPlan → List Val
table_vals = array_vals plan_vals

abbrev pub table_val : List IsoPacketPlan → Val
table_val xs = only (table_vals xs)

pub plan_tells : Tells PlanT (Is PlanT) plan_vals
plan_tells = LL.tells P.the_type P'.the_laws

pub way_tells : Tells WayT (Is WayT) way_vals
way_tells = EL.tells D.the_type D'.the_laws

pub table_tells : Tells TableT (Is TableT) table_vals
table_tells = Array-Tells PlanT plan_vals plan_tells 1024

module _ {M : Type 1} {𝓤 : Ura M} (𝓛 : Logic 𝓤) where
  pub plan_typed : (p : IsoPacketPlan) (v : Val) → Is PlanT p (v ∷ []) → T (has_ty plan_ty v) × WT v
  plan_typed p v is = ((LL.lawful P.the_type P'.the_laws 𝓛).typed p (v ∷ []) is).0

  pub way_typed : (d : Direction) → Is WayT d (way_val d ∷ []) → T (has_ty way_ty (way_val d)) × WT (way_val d)
  way_typed d is = ((EL.lawful D.the_type D'.the_laws 𝓛 tt).typed d (way_val d ∷ []) is).0

  pub table_typed : (xs : List IsoPacketPlan) → Is TableT xs (table_val xs ∷ []) → T (has_ty table_ty (table_val xs)) × WT (table_val xs)
  table_typed xs is = ((Array-Lawful 𝓛 PlanT (LL.lawful P.the_type P'.the_laws 𝓛) 1024).typed xs (table_val xs ∷ []) is).0

  -- a direction and a table are plain data: what they own is had for nothing
  pub way_makes : Makes 𝓛 WayT (Is WayT)
  way_makes = EL.makes D.the_type D'.the_plain 𝓛

  pub table_makes : Makes 𝓛 TableT (Is TableT)
  table_makes = Array-Makes 𝓛 PlanT (LL.makes P.the_type P'.the_plain 𝓛) 1024

-- plans in memory, side by side from a place on
abbrev pub Cells : List IsoPacketPlan → ℕ → ℕ → Fml
Cells = cells (mem PlanT)

-- a table's plans from f to t: those before them, those behind them, and where they and those behind begin
module _ (xs : List IsoPacketPlan) (f t : ℕ) where
  abbrev pub before : List IsoPacketPlan
  before = take f (take t xs)

  abbrev pub behind : List IsoPacketPlan
  behind = past t xs

  abbrev pub start : ℕ
  start = f * 8 + 0

  abbrev pub end : ℕ
  end = at 0 8 (length (take t xs))

  module _ (f-t : f ≤ t) (t-in : t ≤ length xs) where
    begins : at 0 8 (length before) ≡ start
    begins = ap (at 0 8) (before_part f t xs f-t t-in) ∙ at_mul 0 8 f

    module _ {M : Type 1} {𝓤 : Ura M} (𝓛 : Logic 𝓤) (l : ℕ) where
      pub apart : Is TableT xs (table_val xs ∷ [])
          → ent 𝓤 (sem 𝓛 (fat full_share table_ty l 0 (table_val xs)))
          (sep 𝓤 (sem 𝓛 (Cells before l 0)) (sep 𝓤 (sem 𝓛 (Cells (slice f t xs) l start)) (sem 𝓛 (Cells behind l end))))
      unfolding part_of
      apart is =
          qed 𝓛 (‵ (fat full_share table_ty l 0 (table_val xs)) ∷ []) ∵
          use1 𝓛 (‵ (cell_at full_share TableT.mir (table_val xs ∷ []) l 0)) (𝓛.laws.at_raw full_share table_ty l 0 (table_val xs)) $
          owned ! TableT (Is TableT) (table_makes 𝓛) xs _ is $ move ! (1 ∷ 0 ∷ []) $ fjoin ! $
          fpack ! (List Val) (λ vs. fsep (cell_at full_share TableT.mir vs l 0) (TableT.own_val xs vs)) (table_val xs ∷ []) $
          use1 𝓛 (‵ ((arr_parts (shares PlanT) 1024).part full_share xs l 0)) (Array-apart 𝓛 PlanT full_share tt 1024 xs l 0) $ fsplit ! $ drop ! $
          use1 𝓛 (‵ (Cells xs l 0)) (whole_in 𝓛 PlanT xs l 0) $
          rewrite ! 0 (λ (ys : List IsoPacketPlan). ‵ (Cells ys l 0)) (sym (take-append-drop t xs)) refl $
          use1 𝓛 (‵ (Cells (take t xs) l 0) ⊛ ‵ (Cells behind l end)) (cut_app 𝓛 (mem PlanT) (take t xs) behind l 0) $ split ! $
          rewrite ! 0 (λ (ys : List IsoPacketPlan). ‵ (Cells ys l 0)) (sym (take-append-drop f (take t xs))) refl $
          use1 𝓛 (‵ (Cells before l 0) ⊛ ‵ (Cells (slice f t xs) l (at 0 8 (length before)))) (cut_app 𝓛 (mem PlanT) before (slice f t xs) l 0) $ split ! $
          rewrite ! 1 (λ (p : ℕ). ‵ (Cells (slice f t xs) l p)) begins refl $ done !

      pub whole : (zs : List IsoPacketPlan) → length zs ≡ length (slice f t xs) → length xs ≡ 1024
          → ent 𝓤 (sep 𝓤 (sem 𝓛 (Cells before l 0)) (sep 𝓤 (sem 𝓛 (Cells zs l start)) (sem 𝓛 (Cells behind l end))))
          (guard 𝓤 (Is TableT (sets xs f zs) (table_val (sets xs f zs) ∷ [])) (sem 𝓛 (fat full_share table_ty l 0 (table_val (sets xs f zs)))))
      unfolding part_of
      whole zs e long =
          qed 𝓛 (‵ (Cells before l 0) ∷ ‵ (Cells zs l start) ∷ ‵ (Cells behind l end) ∷ []) ∵ rewrite ! 1 (λ (p : ℕ). ‵ (Cells zs l p)) (sym begins) refl $
          use2 𝓛 (‵ (Cells (before ++ zs) l 0)) (join_app 𝓛 (mem PlanT) before zs l 0) $
          rewrite ! 1 (λ (m : ℕ). ‵ (Cells behind l (at 0 8 m))) (sym (part_fits f t xs zs f-t t-in e)) refl $
          use2 𝓛 (‵ (Cells (before ++ zs ++ behind) l 0)) (join_app 𝓛 (mem PlanT) (before ++ zs) behind l 0) $
          rewrite ! 0 (λ (ys : List IsoPacketPlan). ‵ (Cells ys l 0)) (part_stored f t xs zs f-t t-in e) refl $
          use1 𝓛 (‵ (row PlanT full_share (sets xs f zs) l 0)) (whole_out 𝓛 PlanT (sets xs f zs) l 0) $
          feq_i ! ℕ (length (sets xs f zs)) 1024 (length-sets xs f zs ∙ long) $ fjoin ! $
          use1 𝓛 (‵ (part_at TableT full_share (sets xs f zs) l 0)) (Array-whole 𝓛 PlanT full_share 1024 (sets xs f zs) l 0) $
          fpick ! (λ vs. fsplit ! $ spelt ! TableT (Is TableT) (shows 𝓛 TableT) table_vals table_tells full_share (sets xs f zs) vs l 0 $ move ! (1 ∷ []) $
          facts ! TableT (Is TableT) (shows 𝓛 TableT) (sets xs f zs) (table_val (sets xs f zs) ∷ []) (λ is.
          use1 𝓛 (‵ (fat full_share table_ty l 0 (table_val (sets xs f zs)))) (𝓛.laws.raw_at full_share table_ty l 0 (table_val (sets xs f zs))) $
          check ! is $ done !))
