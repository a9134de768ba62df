-- Document 01's number for each refusal of a planning call and for each role of a stage, and USB 2.0's numbers of a setup packet (table 9-2).
use Rattle.std.specs.Prelude.{ℕ}
use Rattle.plan.specs.declared.refusals.PlanRefusal.{PlanRefusal}
use Rattle.plan.specs.declared.refusals.PlanRefusal.TheVariants.{ShortBuffer, BadEndpoint, ControlTooLong, TooManyDescriptors, AddressLimit}
use Rattle.plan.specs.declared.types.Dwc2StageRole.{Dwc2StageRole}
use Rattle.plan.specs.declared.types.Dwc2StageRole.TheVariants as role
use Rattle.plan.specs.declared.types.RequestType.{RequestType}
use Rattle.plan.specs.declared.types.RequestType.TheVariants.{Standard, Class, Vendor, Reserved}
use Rattle.plan.specs.declared.types.Recipient.{Recipient}
use Rattle.plan.specs.declared.types.Recipient.TheVariants.{Device, Interface, Endpoint, Other}

-- 01, "Refusal numbers"
abbrev pub refusal_number : PlanRefusal → ℕ
refusal_number ShortBuffer = 17
refusal_number BadEndpoint = 18
refusal_number ControlTooLong = 19
refusal_number TooManyDescriptors = 20
refusal_number AddressLimit = 11

-- the roles in the order in which control stages run, behind the one of other transfers
abbrev pub role_number : Dwc2StageRole → ℕ
role_number role.Data = 0
role_number role.ControlSetup = 1
role_number role.ControlData = 2
role_number role.ControlStatus = 3

-- bmRequestType, bits 5 to 6
abbrev pub request_type_number : RequestType → ℕ
request_type_number Standard = 0
request_type_number Class = 1
request_type_number Vendor = 2
request_type_number Reserved = 3

-- bmRequestType, bits 0 to 4
abbrev pub recipient_number : Recipient → ℕ
recipient_number Device = 0
recipient_number Interface = 1
recipient_number Endpoint = 2
recipient_number Other = 3
