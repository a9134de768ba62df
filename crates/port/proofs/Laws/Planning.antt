-- Planning by numbers: what is answered where a number names nothing, and where all name something, is a choice by one test; and a stage that
-- planning hands out is read as the stage that it was.
use Rattle.std.proofs.Common.{◌≡◌, ℕ, Bool, true, false, cond, List, sym, refl, ap, ◌∙◌}
use Rattle.plan.specs.declared.types.Dwc2StageRole.{Dwc2StageRole}
use Rattle.plan.specs.declared.types.Dwc2StageRole.TheVariants as role
use Rattle.plan.specs.declared.types.Dwc2TransferStage.{Dwc2TransferStage}
use Rattle.plan.specs.Numbers.{role_number}
use Rattle.plan.specs.StageLength.{stage_length}
use Rattle.port.specs.Planning.{role_of, is_bad_role, stage_numbers, stage_of, length_number, stage_moved_number}

-- the first where the test holds, the second where it does not
pub first_of : {A : Type 0} (a b : A) {t bad : Bool} {x : A} → t ≡ bad → t ≡ true → x ≡ a → x ≡ cond bad a b
first_of a b e h p = p ∙ ap (λ (t : Bool). cond t a b) (sym h ∙ e)

pub second_of : {A : Type 0} (a b : A) {t bad : Bool} {x : A} → t ≡ bad → t ≡ false → x ≡ b → x ≡ cond bad a b
second_of a b e h p = p ∙ ap (λ (t : Bool). cond t a b) (sym h ∙ e)

role_named : (r : Dwc2StageRole) → is_bad_role (role_number r) ≡ false
role_named role.Data = refl
role_named role.ControlSetup = refl
role_named role.ControlData = refl
role_named role.ControlStatus = refl

role_back : (r : Dwc2StageRole) → role_of (role_number r) ≡ r
role_back role.Data = refl
role_back role.ControlSetup = refl
role_back role.ControlData = refl
role_back role.ControlStatus = refl

pub stage_back : (s : Dwc2TransferStage) → stage_of (stage_numbers s) ≡ s
stage_back s =
    ap
    (λ (r : Dwc2StageRole). record {
      role = r;
      hcchar = s.hcchar;
      hctsiz = s.hctsiz;
      dma_addr = s.dma_addr;
      desc_base = s.desc_base;
      descs = s.descs;
      len = s.len;
    })
    (role_back s.role)

pub moved_back : (s : Dwc2TransferStage) (array : List ℕ) → length_number (stage_length s array) ≡ stage_moved_number (stage_numbers s) array
moved_back s array =
    second_of
    (record { refusal = 18; value = 0 })
    (length_number (stage_length (stage_of (stage_numbers s)) array))
    refl
    (role_named s.role)
    (ap (λ (t : Dwc2TransferStage). length_number (stage_length t array)) (sym (stage_back s)))
