-- The types of messages (ITU-T Q.931, 4.4, table 4-2).
use Rattle.std.specs.Prelude.{ℕ, ◌==◌, List, if◌then◌else◌, codes}
use Rattle.bx_q931.specs.declared.kind.Kind.{Kind}
use Rattle.bx_q931.specs.declared.kind.Kind.TheVariants.{Alerting, CallProceeding, Progress, Setup, Connect, SetupAcknowledge, ConnectAcknowledge, Disconnect, Release, ReleaseComplete, Notify, StatusEnquiry, Information, Status, Other}

abbrev pub kind_of : ℕ → Kind
kind_of octet =
    if octet == 0x01 then Alerting
    else if octet == 0x02 then CallProceeding
    else if octet == 0x03 then Progress
    else if octet == 0x05 then Setup
    else if octet == 0x07 then Connect
    else if octet == 0x0D then SetupAcknowledge
    else if octet == 0x0F then ConnectAcknowledge
    else if octet == 0x45 then Disconnect
    else if octet == 0x4D then Release
    else if octet == 0x5A then ReleaseComplete
    else if octet == 0x6E then Notify
    else if octet == 0x75 then StatusEnquiry
    else if octet == 0x7B then Information
    else if octet == 0x7D then Status
    else Other octet

abbrev pub octet_of : Kind → ℕ
octet_of Alerting = 0x01
octet_of CallProceeding = 0x02
octet_of Progress = 0x03
octet_of Setup = 0x05
octet_of Connect = 0x07
octet_of SetupAcknowledge = 0x0D
octet_of ConnectAcknowledge = 0x0F
octet_of Disconnect = 0x45
octet_of Release = 0x4D
octet_of ReleaseComplete = 0x5A
octet_of Notify = 0x6E
octet_of StatusEnquiry = 0x75
octet_of Information = 0x7B
octet_of Status = 0x7D
octet_of (Other octet) = octet

abbrev pub name_of : Kind → List ℕ
name_of Alerting = codes "ALERTING"
name_of CallProceeding = codes "CALL PROCEEDING"
name_of Progress = codes "PROGRESS"
name_of Setup = codes "SETUP"
name_of Connect = codes "CONNECT"
name_of SetupAcknowledge = codes "SETUP ACKNOWLEDGE"
name_of ConnectAcknowledge = codes "CONNECT ACKNOWLEDGE"
name_of Disconnect = codes "DISCONNECT"
name_of Release = codes "RELEASE"
name_of ReleaseComplete = codes "RELEASE COMPLETE"
name_of Notify = codes "NOTIFY"
name_of StatusEnquiry = codes "STATUS ENQUIRY"
name_of Information = codes "INFORMATION"
name_of Status = codes "STATUS"
name_of (Other octet) = if octet == 0x46 then codes "RESTART" else if octet == 0x4E then codes "RESTART ACKNOWLEDGE" else codes "UNKNOWN"

-- a message of section 4.4, not one of another type
abbrev pub IsNamed : Kind → Type 0
IsNamed (Other octet) = ⊥
IsNamed _ = Unit {0}
