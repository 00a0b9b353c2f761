-- The public FIT Profile, from the tables in src/table.rt. Made by crates/fit_profile/make from python/fitrec/profile.txt.
use Rattle.std.specs.Prelude.{ℕ, List, [], map, Option, Some, None, codes, ◌==◌, nat_lt, if◌then◌else◌}
use Rattle.fit_profile.specs.Facts.{FieldFacts}
use Rattle.fit_profile.specs.declared.table.TheConstants.{FILE_ID, CAPABILITIES, DEVICE_SETTINGS, USER_PROFILE, HRM_PROFILE, SDM_PROFILE, BIKE_PROFILE, ZONES_TARGET, HR_ZONE, POWER_ZONE, MET_ZONE, SPORT, GOAL, SESSION, LAP, RECORD, EVENT, DEVICE_INFO, WORKOUT, WORKOUT_STEP, SCHEDULE, WEIGHT_SCALE, COURSE, COURSE_POINT, TOTALS, ACTIVITY, SOFTWARE, FILE_CAPABILITIES, MESG_CAPABILITIES, FIELD_CAPABILITIES, FILE_CREATOR, BLOOD_PRESSURE, SPEED_ZONE, MONITORING, TRAINING_FILE, HRV, ANT_RX, ANT_TX, ANT_CHANNEL_ID, LENGTH, MONITORING_INFO, PAD, SLAVE_DEVICE, CONNECTIVITY, WEATHER_CONDITIONS, WEATHER_ALERT, CADENCE_ZONE, HR, SEGMENT_LAP, MEMO_GLOB, SEGMENT_ID, SEGMENT_LEADERBOARD_ENTRY, SEGMENT_POINT, SEGMENT_FILE, WORKOUT_SESSION, WATCHFACE_SETTINGS, GPS_METADATA, CAMERA_EVENT, TIMESTAMP_CORRELATION, GYROSCOPE_DATA, ACCELEROMETER_DATA, THREE_D_SENSOR_CALIBRATION, VIDEO_FRAME, OBDII_DATA, NMEA_SENTENCE, AVIATION_ATTITUDE, VIDEO, VIDEO_TITLE, VIDEO_DESCRIPTION, VIDEO_CLIP, OHR_SETTINGS, EXD_SCREEN_CONFIGURATION, EXD_DATA_FIELD_CONFIGURATION, EXD_DATA_CONCEPT_CONFIGURATION, FIELD_DESCRIPTION, DEVELOPER_DATA_ID, MAGNETOMETER_DATA, BAROMETER_DATA, ONE_D_SENSOR_CALIBRATION, TIME_IN_ZONE, SET, STRESS_LEVEL, DIVE_SETTINGS, DIVE_GAS, DIVE_ALARM, EXERCISE_TITLE, DIVE_SUMMARY, JUMP, SPLIT, CLIMB_PRO, TANK_UPDATE, TANK_SUMMARY, DEVICE_AUX_BATTERY_INFO, DIVE_APNEA_ALARM}

unfoldable pub file_id_rows : List FieldFacts
file_id_rows = map (λ row. (row.0, row.1.now, row.2.now, row.3)) FILE_ID.now

unfoldable pub capabilities_rows : List FieldFacts
capabilities_rows = map (λ row. (row.0, row.1.now, row.2.now, row.3)) CAPABILITIES.now

unfoldable pub device_settings_rows : List FieldFacts
device_settings_rows = map (λ row. (row.0, row.1.now, row.2.now, row.3)) DEVICE_SETTINGS.now

unfoldable pub user_profile_rows : List FieldFacts
user_profile_rows = map (λ row. (row.0, row.1.now, row.2.now, row.3)) USER_PROFILE.now

unfoldable pub hrm_profile_rows : List FieldFacts
hrm_profile_rows = map (λ row. (row.0, row.1.now, row.2.now, row.3)) HRM_PROFILE.now

unfoldable pub sdm_profile_rows : List FieldFacts
sdm_profile_rows = map (λ row. (row.0, row.1.now, row.2.now, row.3)) SDM_PROFILE.now

unfoldable pub bike_profile_rows : List FieldFacts
bike_profile_rows = map (λ row. (row.0, row.1.now, row.2.now, row.3)) BIKE_PROFILE.now

unfoldable pub zones_target_rows : List FieldFacts
zones_target_rows = map (λ row. (row.0, row.1.now, row.2.now, row.3)) ZONES_TARGET.now

unfoldable pub hr_zone_rows : List FieldFacts
hr_zone_rows = map (λ row. (row.0, row.1.now, row.2.now, row.3)) HR_ZONE.now

unfoldable pub power_zone_rows : List FieldFacts
power_zone_rows = map (λ row. (row.0, row.1.now, row.2.now, row.3)) POWER_ZONE.now

unfoldable pub met_zone_rows : List FieldFacts
met_zone_rows = map (λ row. (row.0, row.1.now, row.2.now, row.3)) MET_ZONE.now

unfoldable pub sport_rows : List FieldFacts
sport_rows = map (λ row. (row.0, row.1.now, row.2.now, row.3)) SPORT.now

unfoldable pub goal_rows : List FieldFacts
goal_rows = map (λ row. (row.0, row.1.now, row.2.now, row.3)) GOAL.now

unfoldable pub session_rows : List FieldFacts
session_rows = map (λ row. (row.0, row.1.now, row.2.now, row.3)) SESSION.now

unfoldable pub lap_rows : List FieldFacts
lap_rows = map (λ row. (row.0, row.1.now, row.2.now, row.3)) LAP.now

unfoldable pub record_rows : List FieldFacts
record_rows = map (λ row. (row.0, row.1.now, row.2.now, row.3)) RECORD.now

unfoldable pub event_rows : List FieldFacts
event_rows = map (λ row. (row.0, row.1.now, row.2.now, row.3)) EVENT.now

unfoldable pub device_info_rows : List FieldFacts
device_info_rows = map (λ row. (row.0, row.1.now, row.2.now, row.3)) DEVICE_INFO.now

unfoldable pub workout_rows : List FieldFacts
workout_rows = map (λ row. (row.0, row.1.now, row.2.now, row.3)) WORKOUT.now

unfoldable pub workout_step_rows : List FieldFacts
workout_step_rows = map (λ row. (row.0, row.1.now, row.2.now, row.3)) WORKOUT_STEP.now

unfoldable pub schedule_rows : List FieldFacts
schedule_rows = map (λ row. (row.0, row.1.now, row.2.now, row.3)) SCHEDULE.now

unfoldable pub weight_scale_rows : List FieldFacts
weight_scale_rows = map (λ row. (row.0, row.1.now, row.2.now, row.3)) WEIGHT_SCALE.now

unfoldable pub course_rows : List FieldFacts
course_rows = map (λ row. (row.0, row.1.now, row.2.now, row.3)) COURSE.now

unfoldable pub course_point_rows : List FieldFacts
course_point_rows = map (λ row. (row.0, row.1.now, row.2.now, row.3)) COURSE_POINT.now

unfoldable pub totals_rows : List FieldFacts
totals_rows = map (λ row. (row.0, row.1.now, row.2.now, row.3)) TOTALS.now

unfoldable pub activity_rows : List FieldFacts
activity_rows = map (λ row. (row.0, row.1.now, row.2.now, row.3)) ACTIVITY.now

unfoldable pub software_rows : List FieldFacts
software_rows = map (λ row. (row.0, row.1.now, row.2.now, row.3)) SOFTWARE.now

unfoldable pub file_capabilities_rows : List FieldFacts
file_capabilities_rows = map (λ row. (row.0, row.1.now, row.2.now, row.3)) FILE_CAPABILITIES.now

unfoldable pub mesg_capabilities_rows : List FieldFacts
mesg_capabilities_rows = map (λ row. (row.0, row.1.now, row.2.now, row.3)) MESG_CAPABILITIES.now

unfoldable pub field_capabilities_rows : List FieldFacts
field_capabilities_rows = map (λ row. (row.0, row.1.now, row.2.now, row.3)) FIELD_CAPABILITIES.now

unfoldable pub file_creator_rows : List FieldFacts
file_creator_rows = map (λ row. (row.0, row.1.now, row.2.now, row.3)) FILE_CREATOR.now

unfoldable pub blood_pressure_rows : List FieldFacts
blood_pressure_rows = map (λ row. (row.0, row.1.now, row.2.now, row.3)) BLOOD_PRESSURE.now

unfoldable pub speed_zone_rows : List FieldFacts
speed_zone_rows = map (λ row. (row.0, row.1.now, row.2.now, row.3)) SPEED_ZONE.now

unfoldable pub monitoring_rows : List FieldFacts
monitoring_rows = map (λ row. (row.0, row.1.now, row.2.now, row.3)) MONITORING.now

unfoldable pub training_file_rows : List FieldFacts
training_file_rows = map (λ row. (row.0, row.1.now, row.2.now, row.3)) TRAINING_FILE.now

unfoldable pub hrv_rows : List FieldFacts
hrv_rows = map (λ row. (row.0, row.1.now, row.2.now, row.3)) HRV.now

unfoldable pub ant_rx_rows : List FieldFacts
ant_rx_rows = map (λ row. (row.0, row.1.now, row.2.now, row.3)) ANT_RX.now

unfoldable pub ant_tx_rows : List FieldFacts
ant_tx_rows = map (λ row. (row.0, row.1.now, row.2.now, row.3)) ANT_TX.now

unfoldable pub ant_channel_id_rows : List FieldFacts
ant_channel_id_rows = map (λ row. (row.0, row.1.now, row.2.now, row.3)) ANT_CHANNEL_ID.now

unfoldable pub length_rows : List FieldFacts
length_rows = map (λ row. (row.0, row.1.now, row.2.now, row.3)) LENGTH.now

unfoldable pub monitoring_info_rows : List FieldFacts
monitoring_info_rows = map (λ row. (row.0, row.1.now, row.2.now, row.3)) MONITORING_INFO.now

unfoldable pub pad_rows : List FieldFacts
pad_rows = map (λ row. (row.0, row.1.now, row.2.now, row.3)) PAD.now

unfoldable pub slave_device_rows : List FieldFacts
slave_device_rows = map (λ row. (row.0, row.1.now, row.2.now, row.3)) SLAVE_DEVICE.now

unfoldable pub connectivity_rows : List FieldFacts
connectivity_rows = map (λ row. (row.0, row.1.now, row.2.now, row.3)) CONNECTIVITY.now

unfoldable pub weather_conditions_rows : List FieldFacts
weather_conditions_rows = map (λ row. (row.0, row.1.now, row.2.now, row.3)) WEATHER_CONDITIONS.now

unfoldable pub weather_alert_rows : List FieldFacts
weather_alert_rows = map (λ row. (row.0, row.1.now, row.2.now, row.3)) WEATHER_ALERT.now

unfoldable pub cadence_zone_rows : List FieldFacts
cadence_zone_rows = map (λ row. (row.0, row.1.now, row.2.now, row.3)) CADENCE_ZONE.now

unfoldable pub hr_rows : List FieldFacts
hr_rows = map (λ row. (row.0, row.1.now, row.2.now, row.3)) HR.now

unfoldable pub segment_lap_rows : List FieldFacts
segment_lap_rows = map (λ row. (row.0, row.1.now, row.2.now, row.3)) SEGMENT_LAP.now

unfoldable pub memo_glob_rows : List FieldFacts
memo_glob_rows = map (λ row. (row.0, row.1.now, row.2.now, row.3)) MEMO_GLOB.now

unfoldable pub segment_id_rows : List FieldFacts
segment_id_rows = map (λ row. (row.0, row.1.now, row.2.now, row.3)) SEGMENT_ID.now

unfoldable pub segment_leaderboard_entry_rows : List FieldFacts
segment_leaderboard_entry_rows = map (λ row. (row.0, row.1.now, row.2.now, row.3)) SEGMENT_LEADERBOARD_ENTRY.now

unfoldable pub segment_point_rows : List FieldFacts
segment_point_rows = map (λ row. (row.0, row.1.now, row.2.now, row.3)) SEGMENT_POINT.now

unfoldable pub segment_file_rows : List FieldFacts
segment_file_rows = map (λ row. (row.0, row.1.now, row.2.now, row.3)) SEGMENT_FILE.now

unfoldable pub workout_session_rows : List FieldFacts
workout_session_rows = map (λ row. (row.0, row.1.now, row.2.now, row.3)) WORKOUT_SESSION.now

unfoldable pub watchface_settings_rows : List FieldFacts
watchface_settings_rows = map (λ row. (row.0, row.1.now, row.2.now, row.3)) WATCHFACE_SETTINGS.now

unfoldable pub gps_metadata_rows : List FieldFacts
gps_metadata_rows = map (λ row. (row.0, row.1.now, row.2.now, row.3)) GPS_METADATA.now

unfoldable pub camera_event_rows : List FieldFacts
camera_event_rows = map (λ row. (row.0, row.1.now, row.2.now, row.3)) CAMERA_EVENT.now

unfoldable pub timestamp_correlation_rows : List FieldFacts
timestamp_correlation_rows = map (λ row. (row.0, row.1.now, row.2.now, row.3)) TIMESTAMP_CORRELATION.now

unfoldable pub gyroscope_data_rows : List FieldFacts
gyroscope_data_rows = map (λ row. (row.0, row.1.now, row.2.now, row.3)) GYROSCOPE_DATA.now

unfoldable pub accelerometer_data_rows : List FieldFacts
accelerometer_data_rows = map (λ row. (row.0, row.1.now, row.2.now, row.3)) ACCELEROMETER_DATA.now

unfoldable pub three_d_sensor_calibration_rows : List FieldFacts
three_d_sensor_calibration_rows = map (λ row. (row.0, row.1.now, row.2.now, row.3)) THREE_D_SENSOR_CALIBRATION.now

unfoldable pub video_frame_rows : List FieldFacts
video_frame_rows = map (λ row. (row.0, row.1.now, row.2.now, row.3)) VIDEO_FRAME.now

unfoldable pub obdii_data_rows : List FieldFacts
obdii_data_rows = map (λ row. (row.0, row.1.now, row.2.now, row.3)) OBDII_DATA.now

unfoldable pub nmea_sentence_rows : List FieldFacts
nmea_sentence_rows = map (λ row. (row.0, row.1.now, row.2.now, row.3)) NMEA_SENTENCE.now

unfoldable pub aviation_attitude_rows : List FieldFacts
aviation_attitude_rows = map (λ row. (row.0, row.1.now, row.2.now, row.3)) AVIATION_ATTITUDE.now

unfoldable pub video_rows : List FieldFacts
video_rows = map (λ row. (row.0, row.1.now, row.2.now, row.3)) VIDEO.now

unfoldable pub video_title_rows : List FieldFacts
video_title_rows = map (λ row. (row.0, row.1.now, row.2.now, row.3)) VIDEO_TITLE.now

unfoldable pub video_description_rows : List FieldFacts
video_description_rows = map (λ row. (row.0, row.1.now, row.2.now, row.3)) VIDEO_DESCRIPTION.now

unfoldable pub video_clip_rows : List FieldFacts
video_clip_rows = map (λ row. (row.0, row.1.now, row.2.now, row.3)) VIDEO_CLIP.now

unfoldable pub ohr_settings_rows : List FieldFacts
ohr_settings_rows = map (λ row. (row.0, row.1.now, row.2.now, row.3)) OHR_SETTINGS.now

unfoldable pub exd_screen_configuration_rows : List FieldFacts
exd_screen_configuration_rows = map (λ row. (row.0, row.1.now, row.2.now, row.3)) EXD_SCREEN_CONFIGURATION.now

unfoldable pub exd_data_field_configuration_rows : List FieldFacts
exd_data_field_configuration_rows = map (λ row. (row.0, row.1.now, row.2.now, row.3)) EXD_DATA_FIELD_CONFIGURATION.now

unfoldable pub exd_data_concept_configuration_rows : List FieldFacts
exd_data_concept_configuration_rows = map (λ row. (row.0, row.1.now, row.2.now, row.3)) EXD_DATA_CONCEPT_CONFIGURATION.now

unfoldable pub field_description_rows : List FieldFacts
field_description_rows = map (λ row. (row.0, row.1.now, row.2.now, row.3)) FIELD_DESCRIPTION.now

unfoldable pub developer_data_id_rows : List FieldFacts
developer_data_id_rows = map (λ row. (row.0, row.1.now, row.2.now, row.3)) DEVELOPER_DATA_ID.now

unfoldable pub magnetometer_data_rows : List FieldFacts
magnetometer_data_rows = map (λ row. (row.0, row.1.now, row.2.now, row.3)) MAGNETOMETER_DATA.now

unfoldable pub barometer_data_rows : List FieldFacts
barometer_data_rows = map (λ row. (row.0, row.1.now, row.2.now, row.3)) BAROMETER_DATA.now

unfoldable pub one_d_sensor_calibration_rows : List FieldFacts
one_d_sensor_calibration_rows = map (λ row. (row.0, row.1.now, row.2.now, row.3)) ONE_D_SENSOR_CALIBRATION.now

unfoldable pub time_in_zone_rows : List FieldFacts
time_in_zone_rows = map (λ row. (row.0, row.1.now, row.2.now, row.3)) TIME_IN_ZONE.now

unfoldable pub set_rows : List FieldFacts
set_rows = map (λ row. (row.0, row.1.now, row.2.now, row.3)) SET.now

unfoldable pub stress_level_rows : List FieldFacts
stress_level_rows = map (λ row. (row.0, row.1.now, row.2.now, row.3)) STRESS_LEVEL.now

unfoldable pub dive_settings_rows : List FieldFacts
dive_settings_rows = map (λ row. (row.0, row.1.now, row.2.now, row.3)) DIVE_SETTINGS.now

unfoldable pub dive_gas_rows : List FieldFacts
dive_gas_rows = map (λ row. (row.0, row.1.now, row.2.now, row.3)) DIVE_GAS.now

unfoldable pub dive_alarm_rows : List FieldFacts
dive_alarm_rows = map (λ row. (row.0, row.1.now, row.2.now, row.3)) DIVE_ALARM.now

unfoldable pub exercise_title_rows : List FieldFacts
exercise_title_rows = map (λ row. (row.0, row.1.now, row.2.now, row.3)) EXERCISE_TITLE.now

unfoldable pub dive_summary_rows : List FieldFacts
dive_summary_rows = map (λ row. (row.0, row.1.now, row.2.now, row.3)) DIVE_SUMMARY.now

unfoldable pub jump_rows : List FieldFacts
jump_rows = map (λ row. (row.0, row.1.now, row.2.now, row.3)) JUMP.now

unfoldable pub split_rows : List FieldFacts
split_rows = map (λ row. (row.0, row.1.now, row.2.now, row.3)) SPLIT.now

unfoldable pub climb_pro_rows : List FieldFacts
climb_pro_rows = map (λ row. (row.0, row.1.now, row.2.now, row.3)) CLIMB_PRO.now

unfoldable pub tank_update_rows : List FieldFacts
tank_update_rows = map (λ row. (row.0, row.1.now, row.2.now, row.3)) TANK_UPDATE.now

unfoldable pub tank_summary_rows : List FieldFacts
tank_summary_rows = map (λ row. (row.0, row.1.now, row.2.now, row.3)) TANK_SUMMARY.now

unfoldable pub device_aux_battery_info_rows : List FieldFacts
device_aux_battery_info_rows = map (λ row. (row.0, row.1.now, row.2.now, row.3)) DEVICE_AUX_BATTERY_INFO.now

unfoldable pub dive_apnea_alarm_rows : List FieldFacts
dive_apnea_alarm_rows = map (λ row. (row.0, row.1.now, row.2.now, row.3)) DIVE_APNEA_ALARM.now

abbrev pub name_0 : ℕ → Option (List ℕ)
name_0 number =
    if number == 0 then Some (codes "file_id") else
    if number == 1 then Some (codes "capabilities") else
    if number == 2 then Some (codes "device_settings") else
    if number == 3 then Some (codes "user_profile") else
    if number == 4 then Some (codes "hrm_profile") else
    if number == 5 then Some (codes "sdm_profile") else
    if number == 6 then Some (codes "bike_profile") else
    if number == 7 then Some (codes "zones_target") else
    if number == 8 then Some (codes "hr_zone") else
    if number == 9 then Some (codes "power_zone") else
    if number == 10 then Some (codes "met_zone") else
    if number == 12 then Some (codes "sport") else
    if number == 15 then Some (codes "goal") else
    None

abbrev pub name_1 : ℕ → Option (List ℕ)
name_1 number =
    if number == 18 then Some (codes "session") else
    if number == 19 then Some (codes "lap") else
    if number == 20 then Some (codes "record") else
    if number == 21 then Some (codes "event") else
    if number == 23 then Some (codes "device_info") else
    if number == 26 then Some (codes "workout") else
    if number == 27 then Some (codes "workout_step") else
    if number == 28 then Some (codes "schedule") else
    if number == 30 then Some (codes "weight_scale") else
    if number == 31 then Some (codes "course") else
    if number == 32 then Some (codes "course_point") else
    if number == 33 then Some (codes "totals") else
    if number == 34 then Some (codes "activity") else
    None

abbrev pub name_2 : ℕ → Option (List ℕ)
name_2 number =
    if number == 35 then Some (codes "software") else
    if number == 37 then Some (codes "file_capabilities") else
    if number == 38 then Some (codes "mesg_capabilities") else
    if number == 39 then Some (codes "field_capabilities") else
    if number == 49 then Some (codes "file_creator") else
    if number == 51 then Some (codes "blood_pressure") else
    if number == 53 then Some (codes "speed_zone") else
    if number == 55 then Some (codes "monitoring") else
    if number == 72 then Some (codes "training_file") else
    if number == 78 then Some (codes "hrv") else
    if number == 80 then Some (codes "ant_rx") else
    if number == 81 then Some (codes "ant_tx") else
    if number == 82 then Some (codes "ant_channel_id") else
    None

abbrev pub name_3 : ℕ → Option (List ℕ)
name_3 number =
    if number == 101 then Some (codes "length") else
    if number == 103 then Some (codes "monitoring_info") else
    if number == 105 then Some (codes "pad") else
    if number == 106 then Some (codes "slave_device") else
    if number == 127 then Some (codes "connectivity") else
    if number == 128 then Some (codes "weather_conditions") else
    if number == 129 then Some (codes "weather_alert") else
    if number == 131 then Some (codes "cadence_zone") else
    if number == 132 then Some (codes "hr") else
    if number == 142 then Some (codes "segment_lap") else
    if number == 145 then Some (codes "memo_glob") else
    if number == 148 then Some (codes "segment_id") else
    if number == 149 then Some (codes "segment_leaderboard_entry") else
    None

abbrev pub name_4 : ℕ → Option (List ℕ)
name_4 number =
    if number == 150 then Some (codes "segment_point") else
    if number == 151 then Some (codes "segment_file") else
    if number == 158 then Some (codes "workout_session") else
    if number == 159 then Some (codes "watchface_settings") else
    if number == 160 then Some (codes "gps_metadata") else
    if number == 161 then Some (codes "camera_event") else
    if number == 162 then Some (codes "timestamp_correlation") else
    if number == 164 then Some (codes "gyroscope_data") else
    if number == 165 then Some (codes "accelerometer_data") else
    if number == 167 then Some (codes "three_d_sensor_calibration") else
    if number == 169 then Some (codes "video_frame") else
    if number == 174 then Some (codes "obdii_data") else
    if number == 177 then Some (codes "nmea_sentence") else
    None

abbrev pub name_5 : ℕ → Option (List ℕ)
name_5 number =
    if number == 178 then Some (codes "aviation_attitude") else
    if number == 184 then Some (codes "video") else
    if number == 185 then Some (codes "video_title") else
    if number == 186 then Some (codes "video_description") else
    if number == 187 then Some (codes "video_clip") else
    if number == 188 then Some (codes "ohr_settings") else
    if number == 200 then Some (codes "exd_screen_configuration") else
    if number == 201 then Some (codes "exd_data_field_configuration") else
    if number == 202 then Some (codes "exd_data_concept_configuration") else
    if number == 206 then Some (codes "field_description") else
    if number == 207 then Some (codes "developer_data_id") else
    if number == 208 then Some (codes "magnetometer_data") else
    if number == 209 then Some (codes "barometer_data") else
    None

abbrev pub name_6 : ℕ → Option (List ℕ)
name_6 number =
    if number == 210 then Some (codes "one_d_sensor_calibration") else
    if number == 216 then Some (codes "time_in_zone") else
    if number == 225 then Some (codes "set") else
    if number == 227 then Some (codes "stress_level") else
    if number == 258 then Some (codes "dive_settings") else
    if number == 259 then Some (codes "dive_gas") else
    if number == 262 then Some (codes "dive_alarm") else
    if number == 264 then Some (codes "exercise_title") else
    if number == 268 then Some (codes "dive_summary") else
    if number == 285 then Some (codes "jump") else
    if number == 312 then Some (codes "split") else
    if number == 317 then Some (codes "climb_pro") else
    if number == 319 then Some (codes "tank_update") else
    None

abbrev pub name_7 : ℕ → Option (List ℕ)
name_7 number =
    if number == 323 then Some (codes "tank_summary") else
    if number == 375 then Some (codes "device_aux_battery_info") else
    if number == 393 then Some (codes "dive_apnea_alarm") else
    None

-- the name of the message with this global number; none if the Profile does not have it
abbrev pub message_named : ℕ → Option (List ℕ)
message_named number =
    if nat_lt number 18 then name_0 number else
    if nat_lt number 35 then name_1 number else
    if nat_lt number 101 then name_2 number else
    if nat_lt number 150 then name_3 number else
    if nat_lt number 178 then name_4 number else
    if nat_lt number 210 then name_5 number else
    if nat_lt number 323 then name_6 number else
    name_7 number

abbrev pub fields_0 : ℕ → List FieldFacts
fields_0 number =
    if number == 0 then file_id_rows else
    if number == 1 then capabilities_rows else
    if number == 2 then device_settings_rows else
    if number == 3 then user_profile_rows else
    if number == 4 then hrm_profile_rows else
    if number == 5 then sdm_profile_rows else
    if number == 6 then bike_profile_rows else
    if number == 7 then zones_target_rows else
    if number == 8 then hr_zone_rows else
    if number == 9 then power_zone_rows else
    if number == 10 then met_zone_rows else
    if number == 12 then sport_rows else
    if number == 15 then goal_rows else
    []

abbrev pub fields_1 : ℕ → List FieldFacts
fields_1 number =
    if number == 18 then session_rows else
    if number == 19 then lap_rows else
    if number == 20 then record_rows else
    if number == 21 then event_rows else
    if number == 23 then device_info_rows else
    if number == 26 then workout_rows else
    if number == 27 then workout_step_rows else
    if number == 28 then schedule_rows else
    if number == 30 then weight_scale_rows else
    if number == 31 then course_rows else
    if number == 32 then course_point_rows else
    if number == 33 then totals_rows else
    if number == 34 then activity_rows else
    []

abbrev pub fields_2 : ℕ → List FieldFacts
fields_2 number =
    if number == 35 then software_rows else
    if number == 37 then file_capabilities_rows else
    if number == 38 then mesg_capabilities_rows else
    if number == 39 then field_capabilities_rows else
    if number == 49 then file_creator_rows else
    if number == 51 then blood_pressure_rows else
    if number == 53 then speed_zone_rows else
    if number == 55 then monitoring_rows else
    if number == 72 then training_file_rows else
    if number == 78 then hrv_rows else
    if number == 80 then ant_rx_rows else
    if number == 81 then ant_tx_rows else
    if number == 82 then ant_channel_id_rows else
    []

abbrev pub fields_3 : ℕ → List FieldFacts
fields_3 number =
    if number == 101 then length_rows else
    if number == 103 then monitoring_info_rows else
    if number == 105 then pad_rows else
    if number == 106 then slave_device_rows else
    if number == 127 then connectivity_rows else
    if number == 128 then weather_conditions_rows else
    if number == 129 then weather_alert_rows else
    if number == 131 then cadence_zone_rows else
    if number == 132 then hr_rows else
    if number == 142 then segment_lap_rows else
    if number == 145 then memo_glob_rows else
    if number == 148 then segment_id_rows else
    if number == 149 then segment_leaderboard_entry_rows else
    []

abbrev pub fields_4 : ℕ → List FieldFacts
fields_4 number =
    if number == 150 then segment_point_rows else
    if number == 151 then segment_file_rows else
    if number == 158 then workout_session_rows else
    if number == 159 then watchface_settings_rows else
    if number == 160 then gps_metadata_rows else
    if number == 161 then camera_event_rows else
    if number == 162 then timestamp_correlation_rows else
    if number == 164 then gyroscope_data_rows else
    if number == 165 then accelerometer_data_rows else
    if number == 167 then three_d_sensor_calibration_rows else
    if number == 169 then video_frame_rows else
    if number == 174 then obdii_data_rows else
    if number == 177 then nmea_sentence_rows else
    []

abbrev pub fields_5 : ℕ → List FieldFacts
fields_5 number =
    if number == 178 then aviation_attitude_rows else
    if number == 184 then video_rows else
    if number == 185 then video_title_rows else
    if number == 186 then video_description_rows else
    if number == 187 then video_clip_rows else
    if number == 188 then ohr_settings_rows else
    if number == 200 then exd_screen_configuration_rows else
    if number == 201 then exd_data_field_configuration_rows else
    if number == 202 then exd_data_concept_configuration_rows else
    if number == 206 then field_description_rows else
    if number == 207 then developer_data_id_rows else
    if number == 208 then magnetometer_data_rows else
    if number == 209 then barometer_data_rows else
    []

abbrev pub fields_6 : ℕ → List FieldFacts
fields_6 number =
    if number == 210 then one_d_sensor_calibration_rows else
    if number == 216 then time_in_zone_rows else
    if number == 225 then set_rows else
    if number == 227 then stress_level_rows else
    if number == 258 then dive_settings_rows else
    if number == 259 then dive_gas_rows else
    if number == 262 then dive_alarm_rows else
    if number == 264 then exercise_title_rows else
    if number == 268 then dive_summary_rows else
    if number == 285 then jump_rows else
    if number == 312 then split_rows else
    if number == 317 then climb_pro_rows else
    if number == 319 then tank_update_rows else
    []

abbrev pub fields_7 : ℕ → List FieldFacts
fields_7 number =
    if number == 323 then tank_summary_rows else
    if number == 375 then device_aux_battery_info_rows else
    if number == 393 then dive_apnea_alarm_rows else
    []

-- the fields of the message with this global number, in order; none if the Profile does not have it
abbrev pub fields_at : ℕ → List FieldFacts
fields_at number =
    if nat_lt number 18 then fields_0 number else
    if nat_lt number 35 then fields_1 number else
    if nat_lt number 101 then fields_2 number else
    if nat_lt number 150 then fields_3 number else
    if nat_lt number 178 then fields_4 number else
    if nat_lt number 210 then fields_5 number else
    if nat_lt number 323 then fields_6 number else
    fields_7 number
